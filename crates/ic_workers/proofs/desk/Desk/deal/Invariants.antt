use Rattle.std.proofs.Common.{◌≡◌, ℕ, ◌++◌, length}
use Rattle.std.specs.Prelude.{IsPermutation}
use Rattle.std.specs.List.{AllByRecursion}
use Rattle.ic_workers.specs.inner.Keeping.{parts_at, parts_in_all, slots_at, AreAt, IsIdle}
use Rattle.ic_workers.proofs.desk.Desk.deal.Given as goal

abbrev pub invariant-loop-place : goal.invariant-loop-place
invariant-loop-place l = record {
  moved : IsPermutation (parts_in_all l.hands ++ parts_at l.self) (parts_in_all l.initial.hands ++ parts_at l.initial.self);
  idle : (budget : ℕ) → AllByRecursion (IsIdle budget) l.initial.hands → AllByRecursion (IsIdle budget) l.hands;
  slots : AreAt 0 (slots_at l.initial.self) → AreAt 0 (slots_at l.self);
  len : length l.self.parts.items ≡ length l.initial.self.parts.items;
  made : l.self.made ≡ l.initial.self.made;
}
