use Rattle.std.proofs.Common.{◌≡◌, ◌++◌, All, map, length}
use Rattle.std.specs.Vec.Iter.{into_iter_items, into_iter_len}
use Rattle.ic_round.specs.WorkViews.{work_of}
use Rattle.ic_crew.specs.inner.Parts.{plain_work, IsWeighed}
use Rattle.ic_crew.proofs.weighing.weigh.Given as goal

-- the works so far with their sizes, and those left
abbrev pub invariant-loop-work : goal.invariant-loop-work
invariant-loop-work l =
    (into_iter_len l.work-iterator ≡ length (into_iter_items l.work-iterator))
    × (map plain_work l.weighed.items ++ map work_of (into_iter_items l.work-iterator) ≡ map work_of l.fn.works.items)
    × (All (IsWeighed l.rules.rules) l.weighed.items)
