use Rattle.ic_in_place.proofs.Onward.{ran_through}
use Rattle.ic_in_place.proofs.laws.runs_go_on.Goals as goal

pub returns : goal.returns
returns c = ran_through
