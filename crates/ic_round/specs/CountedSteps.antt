-- Numbers of single steps.
use Rattle.std.specs.Prelude.{◌≡◌, ℕ, zero, suc, List}
use Rattle.ic_term.specs.Configuration.{Configuration}
use Rattle.ic_rules.specs.Rule.{Rule}
use Rattle.ic_round.specs.Steps.{Step}

-- so many single steps lead from one configuration to another
abbrev pub IsStepsFrom : List Rule → ℕ → Configuration → Configuration → Type 0
IsStepsFrom rs zero c d = c ≡ d
IsStepsFrom rs (suc n) c d = (e : Configuration) × IsStepsFrom rs n c e × Step rs e d
