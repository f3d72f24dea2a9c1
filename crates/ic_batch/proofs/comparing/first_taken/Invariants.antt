use Rattle.std.proofs.Common.{take}
use Rattle.ic_batch.specs.Faults.{AreSame}
use Rattle.ic_batch.proofs.comparing.first_taken.Given as goal

-- no other job has the name of one of those so far
abbrev pub invariant-loop-new : goal.invariant-loop-new
invariant-loop-new l = AreSame (take l.new-index l.jobs) l.table
