use Rattle.std.proofs.Common.{◌≡◌, ◌++◌, map, option_map, length}
use Rattle.std.specs.Vec.Iter.{into_iter_items, into_iter_len}
use Rattle.ic_term.specs.Term.{pair}
use Rattle.ic_reference.specs.inner.Slots.{slot_of, joined}
use Rattle.ic_reference.proofs.slots.join.Given as goal

-- what stood in the places so far, and in those left
abbrev pub invariant-loop-slot : goal.invariant-loop-slot
invariant-loop-slot l =
    (into_iter_len l.slot-iterator ≡ length (into_iter_items l.slot-iterator))
    × (option_map (λ rest. map pair l.equations.items ++ rest) (joined (map slot_of (into_iter_items l.slot-iterator))) ≡ joined (map slot_of l.fn.slots.items))
