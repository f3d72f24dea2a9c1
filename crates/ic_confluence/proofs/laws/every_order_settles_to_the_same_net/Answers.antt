use Rattle.ic_confluence.proofs.NameOrder.{same_ends, settles_so, goes_on_to_settled}
use Rattle.ic_confluence.proofs.laws.every_order_settles_to_the_same_net.Goals as goal

pub returns-clause-ends : goal.returns-clause-ends
returns-clause-ends c = same_ends

pub returns-clause-settled : goal.returns-clause-settled
returns-clause-settled c = settles_so

pub returns-clause-goes_on : goal.returns-clause-goes_on
returns-clause-goes_on c = goes_on_to_settled
