use Rattle.std.proofs.Common.{◌≡◌, ◌<◌, List, All, length, vec_len}
use Rattle.std.specs.Vec.Iter.{into_iter_items, into_iter_len}
use Rattle.ic_rules.specs.Rule.{Rule}
use Rattle.ic_crew.specs.inner.Parts.{IsWeighed}
use Rattle.ic_crew.proofs.Puts.{DealtSoFar}
use Rattle.ic_crew.proofs.dealing.deal_in_order.Given as goal

abbrev pub invariant-loop-work : goal.invariant-loop-work
invariant-loop-work l =
    (into_iter_len l.work-iterator ≡ length (into_iter_items l.work-iterator))
    × (0 < vec_len l.parts.works)
    × ((rs : List Rule) → All (IsWeighed rs) l.fn.weighed.items → DealtSoFar rs l.count l.fn.weighed.items l.parts (into_iter_items l.work-iterator))
