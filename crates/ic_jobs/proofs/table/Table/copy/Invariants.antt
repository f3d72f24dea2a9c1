use Rattle.std.proofs.Common.{◌≡◌, take}
use Rattle.ic_jobs.proofs.table.Table.copy.Given as goal

-- the jobs so far are copied
abbrev pub invariant-loop-job : goal.invariant-loop-job
invariant-loop-job l = l.jobs.items ≡ take l.job-index l.job-items
