use Rattle.std.proofs.Common.{◌≡◌, [], length}
use Rattle.std.specs.List.{AllByRecursion}
use Rattle.ic_workers.specs.inner.Keeping.{parts_in_all, IsIdle}
use Rattle.ic_workers.proofs.desk.stepping.empty_hands.Given as goal

abbrev pub invariant-loop : goal.invariant-loop
invariant-loop l = record {
  len : length l.hands.items ≡ l.counter;
  none : parts_in_all l.hands.items ≡ [];
  idle : AllByRecursion (IsIdle l.budget) l.hands.items;
}
