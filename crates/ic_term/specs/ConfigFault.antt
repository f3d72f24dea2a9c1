use Rattle.std.specs.Prelude.{◌≡◌, Result, Ok, Err}
use Rattle.ic_term.specs.declared.config.ConfigFault.{ConfigFault}
use Rattle.ic_term.specs.declared.config.ConfigFault.TheVariants.{Limit, Name, Memory}

-- The result is this answer, unless a growth was refused.
abbrev pub Answers : {T : Type 0} → Result T ConfigFault → Result T ConfigFault → Type 0
Answers (Ok c) answer = Ok c ≡ answer
Answers (Err Limit) answer = Err Limit ≡ answer
Answers (Err (Name n)) answer = Err (Name n) ≡ answer
Answers (Err Memory) answer = Unit {0}
