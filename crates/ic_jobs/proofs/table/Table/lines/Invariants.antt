use Rattle.std.proofs.Common.{◌≡◌, map, take}
use Rattle.ic_jobs.specs.Shown.{listed}
use Rattle.ic_jobs.proofs.table.Table.lines.Given as goal

-- the jobs so far are listed
abbrev pub invariant-loop-job : goal.invariant-loop-job
invariant-loop-job l = l.lines.items ≡ listed (take l.job-index l.job-items)
