use Rattle.std.specs.Prelude.{◌≡◌, Result, Ok, Err}
use Rattle.ic_round.specs.declared.round_fault.RoundFault.{RoundFault}
use Rattle.ic_round.specs.declared.round_fault.RoundFault.TheVariants.{Overgrown, NamesOut, Memory}

-- The result is this answer, unless a growth was refused.
abbrev pub Answers : {T : Type 0} → Result T RoundFault → Result T RoundFault → Type 0
Answers (Ok value) answer = Ok value ≡ answer
Answers (Err Overgrown) answer = Err Overgrown ≡ answer
Answers (Err NamesOut) answer = Err NamesOut ≡ answer
Answers (Err Memory) answer = Unit {0}
