use Rattle.ic_machine.proofs.Equations.{left_all, left_least, run_equations, start_equations}
use Rattle.ic_machine.proofs.laws.equations_are_made_by_plans.Goals as goal

pub returns-clause-begun : goal.returns-clause-begun
returns-clause-begun c = λ p given plan operands n starts. start_equations p given plan operands n starts

pub returns-clause-fired : goal.returns-clause-fired
returns-clause-fired c = λ p old new run. run_equations p old new run

pub returns-clause-all : goal.returns-clause-all
returns-clause-all c = λ n all. left_all n all

pub returns-clause-least : goal.returns-clause-least
returns-clause-least c = λ n. left_least n
