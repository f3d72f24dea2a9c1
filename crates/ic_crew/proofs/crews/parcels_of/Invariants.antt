use Rattle.std.proofs.Common.{◌≡◌, All, IsTrue, length}
use Rattle.std.specs.Arc.{arc_value}
use Rattle.std.specs.Vec.Iter.{into_iter_items, into_iter_len}
use Rattle.ic_round.specs.Works.{suits}
use Rattle.ic_round.specs.WorkViews.{work_of}
use Rattle.ic_crew.proofs.crews.parcels_of.Given as goal

-- the works of each part that is left suit the rules
abbrev pub invariant-loop-works : goal.invariant-loop-works
invariant-loop-works l =
    (into_iter_len l.works-iterator ≡ length (into_iter_items l.works-iterator))
    × (All (λ part. All (λ w. IsTrue (suits (arc_value l.rules).rules (work_of w))) part.items) (into_iter_items l.works-iterator))
