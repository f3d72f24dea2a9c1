use Rattle.ic_rules.specs.lemmas.RuleLaws.{rule_eq-Decides, rules_eq-Decides}
use Rattle.ic_rules.proofs.laws.equality_is_exact.Goals as goal

pub returns-clause-rules : goal.returns-clause-rules
returns-clause-rules c = rule_eq-Decides

pub returns-clause-rule_sets : goal.returns-clause-rule_sets
returns-clause-rule_sets c = rules_eq-Decides
