use Rattle.std.proofs.Common.{◌≤◌}
use Rattle.ic_text.proofs.front.front_of.Given as goal

abbrev pub invariant-loop-place : goal.invariant-loop-place
invariant-loop-place l = l.run_start ≤ l.place
