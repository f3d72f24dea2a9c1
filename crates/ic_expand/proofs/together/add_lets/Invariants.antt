use Rattle.std.proofs.Common.{length}
use Rattle.ic_expand.proofs.together.add_lets.Given as goal

abbrev pub decreases-loop-rest : goal.decreases-loop-rest
decreases-loop-rest l = length l.rest
