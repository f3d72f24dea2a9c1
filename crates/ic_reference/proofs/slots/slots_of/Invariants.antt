use Rattle.std.proofs.Common.{◌≡◌, ◌++◌, [], map, option_map, length}
use Rattle.std.specs.Vec.Iter.{into_iter_items, into_iter_len}
use Rattle.ic_term.specs.Term.{pair}
use Rattle.ic_reference.specs.inner.Slots.{slot_of, slots_from}
use Rattle.ic_reference.proofs.slots.slots_of.Given as goal

-- the places so far, and those of the equations left
abbrev pub invariant-loop-equation : goal.invariant-loop-equation
invariant-loop-equation l =
    (into_iter_len l.equation-iterator ≡ length (into_iter_items l.equation-iterator))
    × (map slot_of l.slots.items ++ slots_from (length l.slots.items) (map (option_map pair) (into_iter_items l.equation-iterator)) [] ≡ slots_from 0 (map (option_map pair) l.fn.equations.items) [])
