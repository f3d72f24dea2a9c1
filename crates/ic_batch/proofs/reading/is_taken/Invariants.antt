use Rattle.std.proofs.Common.{◌≡◌, drop}
use Rattle.std.specs.List.{list_any}
use Rattle.std.specs.Str.{bytes_eq}
use Rattle.ic_batch.proofs.reading.is_taken.Given as goal

-- the answer is that of the jobs left
abbrev pub invariant-loop-job : goal.invariant-loop-job
invariant-loop-job l = list_any (λ job. bytes_eq job.name l.new.name) (drop l.job-index l.jobs) ≡ list_any (λ job. bytes_eq job.name l.new.name) l.jobs
