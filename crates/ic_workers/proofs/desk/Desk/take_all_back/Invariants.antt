use Rattle.std.proofs.Common.{◌≡◌, ◌+◌, ◌++◌, length, sum_by, vec_len}
use Rattle.std.specs.Prelude.{IsPermutation}
use Rattle.ic_workers.specs.inner.Keeping.{parts_at, parts_in_all, slots_at, AreAt, AreWithin}
use Rattle.ic_workers.proofs.desk.Desk.take_all_back.Given as goal

abbrev pub invariant-loop-hand : goal.invariant-loop-hand
invariant-loop-hand l = record {
  moved : IsPermutation (parts_in_all l.hands.items ++ parts_at l.self) (parts_in_all l.initial.hands.items ++ parts_at l.initial.self);
  slots : AreAt 0 (slots_at l.self);
  within : AreWithin (length l.self.parts.items) (parts_in_all l.hands.items);
  len : length l.self.parts.items ≡ length l.initial.self.parts.items;
  made : l.self.made + sum_by (λ h. h.made) l.hands.items ≡ l.initial.self.made + sum_by (λ h. h.made) l.initial.hands.items;
}

abbrev pub decreases-loop-hand : goal.decreases-loop-hand
decreases-loop-hand l = vec_len l.hands
