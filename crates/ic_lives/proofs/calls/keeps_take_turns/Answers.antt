use Rattle.std.proofs.Common.{refl}
use Rattle.ic_lives.proofs.calls.keeps_take_turns.Goals as goal

pub returns-clause-kept : goal.returns-clause-kept
returns-clause-kept g c done is = (is.target, is.number, is.closed, is.staged)

pub returns-clause-failed : goal.returns-clause-failed
returns-clause-failed g c fault is = (is.target_stays refl, is.number_stays refl)

pub returns-clause-closing : goal.returns-clause-closing
returns-clause-closing g c result is = (is.target, is.number, is.staged)

pub returns-clause-writing : goal.returns-clause-writing
returns-clause-writing g c body result is = (is.target, is.number, is.closed)
