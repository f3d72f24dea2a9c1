use Rattle.ic_confluence.proofs.Moving.{same_names}
use Rattle.ic_confluence.proofs.NameOrder.{step_too}
use Rattle.ic_confluence.proofs.laws.same_nets_take_the_same_name_steps.Goals as goal

pub returns-clause-names : goal.returns-clause-names
returns-clause-names c = same_names

pub returns-clause-steps : goal.returns-clause-steps
returns-clause-steps c = step_too
