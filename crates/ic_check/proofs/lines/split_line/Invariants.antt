use Rattle.std.proofs.Common.{◌≡◌, false, take}
use Rattle.ic_lines.specs.Lines.{has_feed}
use Rattle.ic_check.proofs.lines.split_line.Given as goal

-- no line feed stands in front of the place
abbrev pub invariant-loop-place : goal.invariant-loop-place
invariant-loop-place l = record { none : has_feed (take l.place l.text) ≡ false }
