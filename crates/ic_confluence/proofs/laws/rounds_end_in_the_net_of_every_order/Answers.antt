use Rattle.ic_confluence.proofs.Chains.{rounds_end_so}
use Rattle.ic_confluence.proofs.RoundSteps.{rounds_end, ends_exactly}
use Rattle.ic_confluence.proofs.laws.rounds_end_in_the_net_of_every_order.Goals as goal

pub returns-clause-reached : goal.returns-clause-reached
returns-clause-reached c = rounds_end

pub returns-clause-exactly : goal.returns-clause-exactly
returns-clause-exactly c = ends_exactly

pub returns-clause-end : goal.returns-clause-end
returns-clause-end c = rounds_end_so
