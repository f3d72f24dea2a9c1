use Rattle.std.proofs.Common.{◌≡◌, ◌<◌, length}
use Rattle.std.specs.List.{AllByRecursion}
use Rattle.ic_workers.specs.inner.HandsOn.{Come}
use Rattle.ic_workers.specs.inner.Keeping.{parts_at, IsDesk}
use Rattle.ic_workers.proofs.desk.Desk.feed.Given as goal

abbrev pub invariant-loop : goal.invariant-loop
invariant-loop l = record {
  come : Come l.program (parts_at l.initial.self) (parts_at l.self);
  desk : IsDesk l.program l.self;
  made : l.self.made ≡ l.initial.self.made;
  there : AllByRecursion (λ k. k < length l.self.parts.items) l.busy.items;
}
