use Rattle.std.proofs.Common.{◌≡◌, map, length}
use Rattle.std.specs.Vec.Iter.{into_iter_items, into_iter_len}
use Rattle.ic_round.specs.WorkViews.{fired_of}
use Rattle.ic_reference.specs.inner.Slots.{slot_of}
use Rattle.ic_reference.proofs.Gathers.{Gathers}
use Rattle.ic_reference.proofs.gathering.gather.Given as goal

-- the results so far are in their places
abbrev pub invariant-loop-fired : goal.invariant-loop-fired
invariant-loop-fired l =
    (into_iter_len l.fired-iterator ≡ length (into_iter_items l.fired-iterator))
    × Gathers l.fn.rest.equations (map fired_of l.fn.results.items) (map slot_of l.slots.items) l.strange (map fired_of (into_iter_items l.fired-iterator))
