use Rattle.std.proofs.Common.{◌≡◌, ◌<◌, length}
use Rattle.std.specs.List.{AllByRecursion}
use Rattle.ic_workers.specs.inner.Keeping.{Comes}
use Rattle.ic_workers.proofs.desk.Desk.meet_from.Given as goal

-- the part that told is still there
abbrev pub invariant-loop-told : goal.invariant-loop-told
invariant-loop-told l = record {
  come : Comes l.initial.self l.self;
  there : AllByRecursion (λ k. k < length l.self.parts.items) l.came.items;
  part : l.part < length l.self.parts.items;
  made : l.self.made ≡ l.initial.self.made;
  len : length l.self.parts.items ≡ length l.initial.self.parts.items;
}
