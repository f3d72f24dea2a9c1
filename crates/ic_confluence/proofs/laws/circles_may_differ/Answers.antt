use Rattle.ic_confluence.proofs.Apart.{other_agents, other_order}
use Rattle.ic_confluence.proofs.laws.circles_may_differ.Goals as goal

pub returns-clause-agents : goal.returns-clause-agents
returns-clause-agents c = other_agents

pub returns-clause-order : goal.returns-clause-order
returns-clause-order c = other_order
