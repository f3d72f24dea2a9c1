use Rattle.ic_rules.proofs.FirstPlaces.{number_of_first}
use Rattle.ic_rules.proofs.laws.names_are_numbered_by_first_occurrence.Goals as goal

pub returns : goal.returns
returns c = number_of_first
