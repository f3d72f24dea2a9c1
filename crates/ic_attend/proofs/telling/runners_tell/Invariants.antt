use Rattle.std.proofs.Common.{ℕ, ◌<◌}
use Rattle.std.specs.Prelude.{slice_index_or}
use Rattle.ic_attend.specs.declared.attended.RunnerEnd.{RunnerEnd}
use Rattle.ic_attend.specs.Ends.{EndTells}
use Rattle.ic_attend.proofs.telling.runners_tell.Given as goal

abbrev pub invariant-loop-end : goal.invariant-loop-end
invariant-loop-end g l = (k : ℕ) (d : RunnerEnd) → k < l.end-index → EndTells l.workers l.book (slice_index_or l.ends k d)
