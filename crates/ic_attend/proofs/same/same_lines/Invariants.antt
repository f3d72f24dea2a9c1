use Rattle.std.proofs.Common.{◌≡◌, take}
use Rattle.ic_attend.proofs.same.same_lines.Given as goal

abbrev pub invariant-loop-place : goal.invariant-loop-place
invariant-loop-place l = take l.place l.left ≡ take l.place l.right
