use Rattle.ic_dump.proofs.Dumps.{AreLines}
use Rattle.ic_dump.proofs.dumping.dumped.Given as goal

-- the lines of those so far that are asked for
abbrev pub invariant-loop-job : goal.invariant-loop-job
invariant-loop-job l = AreLines l.names l.job-items l.job-index l.lines.items
