use Rattle.std.proofs.Common.{◌≡◌, ◌≤◌, take}
use Rattle.std.specs.List.{count_by}
use Rattle.ic_jobs.specs.State.{is_running}
use Rattle.ic_serving.proofs.running.count_running.Given as goal

-- the running ones so far, of which there are no more than jobs
abbrev pub invariant-loop-job : goal.invariant-loop-job
invariant-loop-job l = record {
  counted : l.running ≡ count_by (λ job. is_running job.state) (take l.job-index l.jobs);
  bound : l.running ≤ l.job-index;
}
