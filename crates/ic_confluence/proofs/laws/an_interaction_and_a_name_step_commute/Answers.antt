use Rattle.ic_confluence.proofs.Order.{commutes}
use Rattle.ic_confluence.proofs.laws.an_interaction_and_a_name_step_commute.Goals as goal

pub returns : goal.returns
returns c = commutes
