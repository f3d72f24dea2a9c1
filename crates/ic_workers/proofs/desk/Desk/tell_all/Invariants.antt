use Rattle.std.proofs.Common.{◌≡◌}
use Rattle.ic_workers.specs.inner.Keeping.{slots_at}
use Rattle.ic_workers.proofs.desk.Desk.tell_all.Given as goal

abbrev pub invariant-loop-place : goal.invariant-loop-place
invariant-loop-place l = record {
  slots : slots_at l.self ≡ slots_at l.initial.self;
  made : l.self.made ≡ l.initial.self.made;
}
