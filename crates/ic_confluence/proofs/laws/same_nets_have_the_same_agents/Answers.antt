use Rattle.ic_confluence.proofs.Agents.{same_symbols}
use Rattle.ic_confluence.proofs.Ways.{same_ways, one_way}
use Rattle.ic_confluence.proofs.laws.same_nets_have_the_same_agents.Goals as goal

pub returns-clause-agents : goal.returns-clause-agents
returns-clause-agents c = same_symbols

pub returns-clause-circles : goal.returns-clause-circles
returns-clause-circles c = same_ways

pub returns-clause-one_circle : goal.returns-clause-one_circle
returns-clause-one_circle c = one_way
