use Rattle.ic_round.specs.lemmas.ActivityLemmas.{active_agents, active_right_name, turned_right}
use Rattle.ic_round.proofs.laws.active_equations_have_a_rule.Goals as goal

pub returns-clause-agents : goal.returns-clause-agents
returns-clause-agents c = active_agents

pub returns-clause-right_name : goal.returns-clause-right_name
returns-clause-right_name c = active_right_name

pub returns-clause-turned : goal.returns-clause-turned
returns-clause-turned c = turned_right
