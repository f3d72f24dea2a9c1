use Rattle.std.proofs.Common.{◌≡◌, ◌++◌, length, map, vec_len}
use Rattle.std.specs.Prelude.{IsPermutation}
use Rattle.ic_workers.specs.inner.Keeping.{part_of, parts_at, slots_at, AreAt, AreWithin}
use Rattle.ic_workers.proofs.desk.Desk.take_back.Given as goal

-- those that are left in the hand, and those at the desk, are all
abbrev pub invariant-loop-kept : goal.invariant-loop-kept
invariant-loop-kept l = record {
  moved : IsPermutation (map part_of l.parts.items ++ parts_at l.self) (map part_of l.initial.parts.items ++ parts_at l.initial.self);
  slots : AreAt 0 (slots_at l.self);
  within : AreWithin (length l.self.parts.items) (map part_of l.parts.items);
  len : length l.self.parts.items ≡ length l.initial.self.parts.items;
  made : l.self.made ≡ l.initial.self.made;
}

abbrev pub decreases-loop-kept : goal.decreases-loop-kept
decreases-loop-kept l = vec_len l.parts
