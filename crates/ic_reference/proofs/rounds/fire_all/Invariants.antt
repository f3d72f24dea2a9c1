use Rattle.std.proofs.Common.{◌≡◌, ◌++◌, IsTrue, map, length}
use Rattle.std.specs.List.{AllByRecursion}
use Rattle.std.specs.Vec.Iter.{into_iter_items, into_iter_len}
use Rattle.ic_round.specs.Works.{suits, result_of}
use Rattle.ic_round.specs.WorkViews.{work_of, fired_of}
use Rattle.ic_reference.proofs.rounds.fire_all.Given as goal

-- the results so far, and those of the works left, which suit
abbrev pub invariant-loop-work : goal.invariant-loop-work
invariant-loop-work l =
    (into_iter_len l.work-iterator ≡ length (into_iter_items l.work-iterator))
    × (AllByRecursion (λ w. IsTrue (suits l.rules.rules w)) (map work_of (into_iter_items l.work-iterator))
    × (map fired_of l.results.items ++ map (result_of l.rules.rules) (map work_of (into_iter_items l.work-iterator)) ≡ map (result_of l.rules.rules) (map work_of l.fn.works.items)))
