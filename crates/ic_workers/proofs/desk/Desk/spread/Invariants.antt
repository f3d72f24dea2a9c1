use Rattle.std.proofs.Common.{◌≡◌, ◌≤◌, length}
use Rattle.ic_workers.specs.inner.HandsOn.{Come}
use Rattle.ic_workers.specs.inner.Keeping.{parts_at, IsDesk}
use Rattle.ic_workers.proofs.desk.Desk.spread.Given as goal

abbrev pub invariant-loop : goal.invariant-loop
invariant-loop l = record {
  come : Come l.program (parts_at l.initial.self) (parts_at l.self);
  desk : IsDesk l.program l.self;
  some : 1 ≤ length l.self.parts.items;
  made : l.self.made ≡ l.initial.self.made;
}
