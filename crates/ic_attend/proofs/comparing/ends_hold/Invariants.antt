use Rattle.std.proofs.Common.{ℕ, ◌<◌}
use Rattle.std.specs.Prelude.{slice_index_or}
use Rattle.ic_attend.specs.declared.attended.RunnerEnd.{RunnerEnd}
use Rattle.ic_attend.specs.Runners.{EndHolds}
use Rattle.ic_attend.proofs.comparing.ends_hold.Given as goal

abbrev pub invariant-loop-end : goal.invariant-loop-end
invariant-loop-end l =
    (k : ℕ) (d : RunnerEnd) → k < l.end-index → EndHolds l.turns l.jobs l.entries (slice_index_or l.ends k d)
