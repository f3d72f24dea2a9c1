use Rattle.std.proofs.Common.{refl}
use Rattle.ic_lives.proofs.calls.rounds_are_taken_so.Goals as goal

pub returns-clause-moved : goal.returns-clause-moved
returns-clause-moved g c entry expected is = (is.awaited refl, is.moved refl)

pub returns-clause-stale : goal.returns-clause-stale
returns-clause-stale g c entry expected is = (is.stale refl, is.unchanged refl)

pub returns-clause-wanted : goal.returns-clause-wanted
returns-clause-wanted g c entry expected is = is.wanted refl

pub returns-clause-kept : goal.returns-clause-kept
returns-clause-kept g c entry expected result is = (is.start, is.kept, is.keeper)
