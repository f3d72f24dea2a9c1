use Rattle.std.proofs.Common.{drop}
use Rattle.std.specs.List.{flat_map}
use Rattle.ic_codec.specs.inner.Room.{GoesOn}
use Rattle.ic_codec.specs.declared.form.Form.TheVariants.{Ict2}
use Rattle.ic_codec.specs.Jobs.{job_bytes}
use Rattle.ic_codec.proofs.jobs.put_jobs.Given as goal

-- the jobs after these are left
abbrev pub invariant-loop-job : goal.invariant-loop-job
invariant-loop-job l = GoesOn l.fn.out (flat_map (job_bytes Ict2) l.jobs) l.out (flat_map (job_bytes Ict2) (drop l.job-index l.jobs))
