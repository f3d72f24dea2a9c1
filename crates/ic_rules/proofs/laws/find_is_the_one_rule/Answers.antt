use Rattle.ic_rules.specs.lemmas.FindLaws.{rule_for-found, rule_for-none, single_pair}
use Rattle.ic_rules.proofs.laws.find_is_the_one_rule.Goals as goal

pub returns-clause-found : goal.returns-clause-found
returns-clause-found c = rule_for-found

pub returns-clause-none : goal.returns-clause-none
returns-clause-none c = rule_for-none

pub returns-clause-single : goal.returns-clause-single
returns-clause-single c = single_pair
