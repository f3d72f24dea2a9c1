use Rattle.ic_in_place.proofs.OneCount.{example_counts, one_count}
use Rattle.ic_in_place.proofs.laws.counts_are_how_often_each_rule_fired.Goals as goal

pub returns-clause-example : goal.returns-clause-example
returns-clause-example c = example_counts

pub returns-clause-one : goal.returns-clause-one
returns-clause-one c = one_count
