use Rattle.ic_confluence.proofs.Order.{two_meet}
use Rattle.ic_confluence.proofs.laws.two_steps_meet.Goals as goal

pub returns : goal.returns
returns c = two_meet
