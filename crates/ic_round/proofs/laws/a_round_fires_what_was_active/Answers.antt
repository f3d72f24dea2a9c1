use Rattle.ic_settle.specs.lemmas.Reached.{settled_steps, settled_ends}
use Rattle.ic_round.specs.Firing.{fired}
use Rattle.ic_round.proofs.FiringLemmas.{fires_actives, only_interface, only_next, only_equations}
use Rattle.ic_round.proofs.laws.a_round_fires_what_was_active.Goals as goal

pub returns-clause-fires : goal.returns-clause-fires
returns-clause-fires c = fires_actives

pub returns-clause-interface : goal.returns-clause-interface
returns-clause-interface c = only_interface

pub returns-clause-equations : goal.returns-clause-equations
returns-clause-equations c = only_equations

pub returns-clause-next : goal.returns-clause-next
returns-clause-next c = only_next

pub returns-clause-settles : goal.returns-clause-settles
returns-clause-settles c rs config = settled_steps (fired rs config)

pub returns-clause-settled : goal.returns-clause-settled
returns-clause-settled c rs config = settled_ends (fired rs config)
