-- Why a step of building a rule set fails.
use Rattle.std.specs.Prelude.{◌≡◌, List, Some}
use Rattle.ic_rules.specs.Rule.{Rule}
use Rattle.ic_rules.specs.RuleSet.{first_repeated, first_lopsided}
use Rattle.ic_rules.specs.declared.rule_set.RuleFault.{RuleFault}
use Rattle.ic_rules.specs.declared.rule_set.RuleFault.TheVariants.{Limit, Arity, NameCount, Twice, Lopsided, Memory}

-- why rules have no places: the first repeated one, or a growth that was refused
abbrev pub IsTwice : List Rule → RuleFault → Type 0
IsTwice rs Memory = Unit {0}
IsTwice rs (Twice n) = first_repeated rs ≡ Some n
IsTwice rs Limit = ⊥
IsTwice rs (Arity n) = ⊥
IsTwice rs (NameCount n) = ⊥
IsTwice rs (Lopsided n) = ⊥

-- why rules aren't numbered: the first lopsided one, or a growth that was refused
abbrev pub IsLopsided : List Rule → RuleFault → Type 0
IsLopsided rs Memory = Unit {0}
IsLopsided rs (Lopsided n) = first_lopsided rs ≡ Some n
IsLopsided rs Limit = ⊥
IsLopsided rs (Arity n) = ⊥
IsLopsided rs (NameCount n) = ⊥
IsLopsided rs (Twice n) = ⊥
