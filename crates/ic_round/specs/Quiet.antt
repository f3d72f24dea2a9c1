-- Quiet configurations, and a test of them, which definitions can branch on. It holds exactly where
-- `IsQuiet` does (`laws::quiet_is_no_step`).
use Rattle.std.specs.Prelude.{List, Bool, ◌&&◌, is_none}
use Rattle.std.specs.List.{list_all}
use Rattle.ic_term.specs.Configuration.{Configuration}
use Rattle.ic_rules.specs.Rule.{Rule}
use Rattle.ic_settle.specs.Settling.{settling_step}
use Rattle.ic_round.specs.Firing.{active_pair}
use Rattle.ic_round.specs.Steps.{Step}

-- no step is possible
abbrev pub IsQuiet : List Rule → Configuration → Type 0
IsQuiet rs c = (d : Configuration) → ¬ Step rs c d

-- no equation is active
abbrev pub is_inert : List Rule → Configuration → Bool
is_inert rs c = list_all (λ p. is_none (active_pair rs p)) c.equations

-- settling takes no step
abbrev pub is_settled : Configuration → Bool
is_settled c = is_none (settling_step c)

abbrev pub is_quiet : List Rule → Configuration → Bool
is_quiet rs c = is_inert rs c && is_settled c
