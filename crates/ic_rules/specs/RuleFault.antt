use Rattle.std.specs.Prelude.{◌≡◌, Result, Ok, Err}
use Rattle.ic_rules.specs.declared.rule_set.RuleFault.{RuleFault}
use Rattle.ic_rules.specs.declared.rule_set.RuleFault.TheVariants.{Limit, Arity, NameCount, Twice, Lopsided, Memory}

-- The result is this answer, unless a growth was refused.
abbrev pub Answers : {T : Type 0} → Result T RuleFault → Result T RuleFault → Type 0
Answers (Ok v) answer = Ok v ≡ answer
Answers (Err Memory) answer = Unit {0}
Answers (Err Limit) answer = Err Limit ≡ answer
Answers (Err (Arity n)) answer = Err (Arity n) ≡ answer
Answers (Err (NameCount n)) answer = Err (NameCount n) ≡ answer
Answers (Err (Twice n)) answer = Err (Twice n) ≡ answer
Answers (Err (Lopsided n)) answer = Err (Lopsided n) ≡ answer
