use Rattle.std.proofs.Common.{drop}
use Rattle.ic_check.specs.inner.Growing.{HasNoReady}
use Rattle.ic_check.proofs.reach.ready.Given as goal

-- none of those in front is ready
abbrev pub invariant-loop-place : goal.invariant-loop-place
invariant-loop-place l = record { none : HasNoReady l.seen (drop l.place l.waiting) → HasNoReady l.seen l.waiting }
