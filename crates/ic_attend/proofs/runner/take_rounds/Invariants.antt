use Rattle.std.proofs.Common.{◌≤◌}
use Rattle.ic_attend.specs.inner.Crews.{IsReadyFor}
use Rattle.ic_attend.proofs.runner.take_rounds.Given as goal

-- the crew stays ready, and no more turns are taken than there are
abbrev pub invariant-loop : goal.invariant-loop
invariant-loop g l =
    ((goal.iterator-loop g).can_next l.iterator' × (goal.iterator-loop g).is_finite l.iterator')
    × IsReadyFor l.fn.duty.workers l.crew × (l.taken ≤ l.fn.duty.turns)
