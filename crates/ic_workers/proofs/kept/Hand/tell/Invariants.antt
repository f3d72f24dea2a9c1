use Rattle.std.proofs.Common.{◌≡◌}
use Rattle.ic_workers.specs.inner.Keeping.{parts_in}
use Rattle.ic_workers.proofs.kept.Hand.tell.Given as goal

-- no part changes
abbrev pub invariant-loop-place : goal.invariant-loop-place
invariant-loop-place l = record {
  parts : parts_in l.self ≡ parts_in l.initial.self;
  budget : l.self.budget ≡ l.initial.self.budget;
  made : l.self.made ≡ l.initial.self.made;
}
