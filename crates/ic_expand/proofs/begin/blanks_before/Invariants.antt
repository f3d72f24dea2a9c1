use Rattle.std.proofs.Common.{◌≡◌, ◌+◌, drop}
use Rattle.ic_expand.specs.Begins.{blanks_before}
use Rattle.ic_expand.proofs.begin.blanks_before.Given as goal

-- the blanks so far, and those of what is left
abbrev pub invariant-loop-place : goal.invariant-loop-place
invariant-loop-place l = record { all : l.place + blanks_before (drop l.place l.text) ≡ blanks_before l.text }
