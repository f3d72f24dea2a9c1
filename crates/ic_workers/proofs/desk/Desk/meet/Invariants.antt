use Rattle.std.proofs.Common.{◌≡◌, ◌<◌, length}
use Rattle.std.specs.List.{AllByRecursion}
use Rattle.ic_workers.specs.inner.Keeping.{Comes}
use Rattle.ic_workers.proofs.desk.Desk.meet.Given as goal

abbrev pub invariant-loop : goal.invariant-loop
invariant-loop l = record {
  come : Comes l.initial.self l.self;
  there : AllByRecursion (λ k. k < length l.self.parts.items) l.next.items;
  made : l.self.made ≡ l.initial.self.made;
  len : length l.self.parts.items ≡ length l.initial.self.parts.items;
}
