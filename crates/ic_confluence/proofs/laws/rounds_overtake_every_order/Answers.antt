use Rattle.ic_confluence.proofs.Overtaking.{rounds_overtake, rounds_overtake_settled}
use Rattle.ic_confluence.proofs.laws.rounds_overtake_every_order.Goals as goal

pub returns-clause-one_more : goal.returns-clause-one_more
returns-clause-one_more c = rounds_overtake

pub returns-clause-settled : goal.returns-clause-settled
returns-clause-settled c = rounds_overtake_settled
