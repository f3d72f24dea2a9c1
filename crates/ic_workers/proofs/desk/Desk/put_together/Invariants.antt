use Rattle.std.proofs.Common.{◌≡◌, ◌++◌, vec_len}
use Rattle.std.specs.List.{flat_map}
use Rattle.ic_machine.specs.Plan.{Plans}
use Rattle.ic_workers.specs.inner.Keeping.{part_of, parts_at, slot, AreLeft, IsDesk}
use Rattle.ic_workers.proofs.Together.{in_hand}
use Rattle.ic_workers.proofs.desk.Desk.put_together.Given as goal

-- what is still in slots, and what is in hand, the last first, are all that there was
abbrev pub invariant-loop-part : goal.invariant-loop-part
invariant-loop-part l = parts_at l.fn.self ≡ flat_map slot l.parts.items ++ in_hand l.all.items

abbrev pub decreases-loop-part : goal.decreases-loop-part
decreases-loop-part l = vec_len l.parts

-- what is left to gather and the first part are all that there was
abbrev pub invariant-loop-kept : goal.invariant-loop-kept
invariant-loop-kept l = (p : Plans) → IsDesk p l.fn.self
    → AreLeft p (parts_at l.fn.self) l.fn.self.made (part_of l.first) (in_hand l.all.items)

abbrev pub decreases-loop-kept : goal.decreases-loop-kept
decreases-loop-kept l = vec_len l.all
