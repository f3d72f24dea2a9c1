use Rattle.ic_in_place.proofs.Onward.{ran_nothing}
use Rattle.ic_in_place.proofs.running.look_if_due.Goals as goal

pub returns-clause-ran : goal.returns-clause-ran
returns-clause-ran c = λ p. ran_nothing p c.args.machine.now
