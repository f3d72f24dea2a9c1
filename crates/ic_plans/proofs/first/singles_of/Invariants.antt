use Rattle.std.proofs.Common.{◌≡◌, ◌++◌, drop}
use Rattle.ic_plans.specs.inner.Given.{singles}
use Rattle.ic_plans.proofs.first.singles_of.Given as goal

-- those so far and those of what is left are all
abbrev pub invariant-loop-place : goal.invariant-loop-place
invariant-loop-place l = l.found.items ++ singles (drop l.place l.names) (drop l.place l.marks) ≡ singles l.names l.marks
