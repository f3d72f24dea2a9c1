use Rattle.ic_confluence.proofs.Order.{same_ends, go_on, longest}
use Rattle.ic_confluence.proofs.laws.every_order_ends_in_the_same_net.Goals as goal

pub returns-clause-ends : goal.returns-clause-ends
returns-clause-ends c = same_ends

pub returns-clause-goes_on : goal.returns-clause-goes_on
returns-clause-goes_on c = go_on

pub returns-clause-longest : goal.returns-clause-longest
returns-clause-longest c = longest
