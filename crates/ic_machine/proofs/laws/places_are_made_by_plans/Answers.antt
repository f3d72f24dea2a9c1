use Rattle.ic_machine.proofs.Growth.{start_names, start_agents, run_made}
use Rattle.ic_machine.proofs.laws.places_are_made_by_plans.Goals as goal

pub returns-clause-names : goal.returns-clause-names
returns-clause-names c = λ p given plan operands n starts. start_names p given plan operands n starts

pub returns-clause-agents : goal.returns-clause-agents
returns-clause-agents c = λ p given plan operands n starts. start_agents p given plan operands n starts

pub returns-clause-fired : goal.returns-clause-fired
returns-clause-fired c = λ p old new run low. run_made p old new run low
