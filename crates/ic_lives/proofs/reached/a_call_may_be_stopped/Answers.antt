use Rattle.ic_book.specs.Server.{up}
use Rattle.ic_lives.proofs.StopLemmas.{step_stop}
use Rattle.ic_lives.proofs.reached.a_call_may_be_stopped.Goals as goal

pub returns-clause-of_book : goal.returns-clause-of_book
returns-clause-of_book g c move is here = step_stop move c.args.before.now c.args.after.now c.args.found.now is here

pub returns-clause-of_opening : goal.returns-clause-of_opening
returns-clause-of_opening g c is here = (up c.args.after.now, is, here)
