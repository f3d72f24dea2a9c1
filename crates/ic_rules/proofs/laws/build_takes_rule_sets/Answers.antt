use Rattle.ic_rules.proofs.FirstPlaces.{first_repeated-Some}
use Rattle.ic_rules.proofs.TakenRules.{takes, taken}
use Rattle.ic_rules.proofs.laws.build_takes_rule_sets.Goals as goal

pub returns : goal.returns
returns c = record { taken = λ rs. (taken rs, takes rs); twice = first_repeated-Some }
