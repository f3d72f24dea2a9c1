use Rattle.std.proofs.Common.{drop, take, ◌↔◌}
use Rattle.std.specs.List.{AllByRecursion, IsDistinct}
use Rattle.std.specs.Str.{bytes_eq}
use Rattle.ic_jobs.specs.Job.{IsJob}
use Rattle.ic_jobs.specs.Table.{job_names}
use Rattle.ic_jobs.proofs.table.places.are_distinct.Given as goal

-- the names are distinct where those left are, and the jobs so far are jobs
abbrev pub invariant-loop-place : goal.invariant-loop-place
invariant-loop-place l =
    (IsDistinct bytes_eq (job_names l.jobs) ↔ IsDistinct bytes_eq (job_names (drop l.place l.jobs))) × AllByRecursion IsJob (take l.place l.jobs)
