use Rattle.std.proofs.Common.{length}
use Rattle.ic_check.proofs.sessions.put_refusals.Given as goal

abbrev pub decreases-loop-rest : goal.decreases-loop-rest
decreases-loop-rest l = length l.rest
