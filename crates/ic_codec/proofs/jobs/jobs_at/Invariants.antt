use Rattle.ic_codec.specs.inner.Forms.{HasJobBytes}
use Rattle.ic_codec.specs.Jobs.{job_bytes}
use Rattle.ic_codec.specs.inner.Fronts.{BeginsWithMany, uncounted}
use Rattle.ic_codec.proofs.jobs.jobs_at.Given as goal

-- so many jobs have been read
abbrev pub invariant-loop : goal.invariant-loop
invariant-loop l = BeginsWithMany (HasJobBytes l.form) (job_bytes l.form) uncounted l.counter 0 l.bytes l.jobs.items 0 l.rest
