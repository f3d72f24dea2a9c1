use Rattle.std.proofs.Common.{◌≡◌, ◌++◌, take, drop}
use Rattle.ic_text.specs.inner.Prefix.{first_run}
use Rattle.ic_text.proofs.prefix.first_run.Given as goal

-- the bytes so far are of the run
abbrev pub invariant-loop-place : goal.invariant-loop-place
invariant-loop-place l = take l.place l.text ++ first_run (drop l.place l.text) ≡ first_run l.text
