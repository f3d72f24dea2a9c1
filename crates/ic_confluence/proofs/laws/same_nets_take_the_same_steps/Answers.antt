use Rattle.ic_confluence.proofs.Order.{step_too, quiet_too}
use Rattle.ic_confluence.proofs.laws.same_nets_take_the_same_steps.Goals as goal

pub returns-clause-steps : goal.returns-clause-steps
returns-clause-steps c = step_too

pub returns-clause-quiet : goal.returns-clause-quiet
returns-clause-quiet c = quiet_too
