use Rattle.std.proofs.Common.{◌≡◌, ℕ, ◌<◌, false}
use Rattle.std.specs.Prelude.{slice_index_or}
use Rattle.ic_jobs.specs.Job.{JobParts}
use Rattle.ic_jobs.specs.State.{is_running}
use Rattle.ic_attend.proofs.comparing.none_runs.Given as goal

abbrev pub invariant-loop-job : goal.invariant-loop-job
invariant-loop-job l =
    (k : ℕ) (d : JobParts) → k < l.job-index → is_running (slice_index_or l.jobs k d).state ≡ false
