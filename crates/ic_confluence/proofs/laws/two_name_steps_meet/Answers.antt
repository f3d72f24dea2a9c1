use Rattle.ic_confluence.proofs.NameOrder.{two_steps}
use Rattle.ic_confluence.proofs.laws.two_name_steps_meet.Goals as goal

pub returns : goal.returns
returns c = two_steps
