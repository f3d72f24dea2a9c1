use Rattle.std.proofs.Common.{refl, arith}
use Rattle.ic_codec.specs.Jobs.{job_bytes}
use Rattle.ic_codec.specs.inner.Forms.{HasJobBytes}
use Rattle.ic_codec.specs.inner.Fronts.{BeginsWithOne, uncounted}
use Rattle.ic_codec.proofs.Items.{many_more_as, none_many}
use Rattle.ic_codec.proofs.JobLemmas.{job_tells}
use Rattle.ic_codec.proofs.jobs.jobs_at.Goals as goal

pub returns-in-Err-clause-refused : goal.returns-in-Err-clause-refused
returns-in-Err-clause-refused c =
    λ same. none_many c.args.count (job_tells c.args.form) (omega arith) c.loop.invariant (λ j rest is none. c.in-Err.ensures.refused same j rest is)

pub loop-preserved : goal.loop-preserved
loop-preserved c =
    let read = c.in-Ok.ensures.read in
    let one : BeginsWithOne (HasJobBytes c.args.form) (job_bytes c.args.form) uncounted 0 c.loop.rest.now c.in-Ok.job 0 c.in-Ok.rest.now = record { parts = read.parts; valid = read.valid; counted = refl } in
    many_more_as c.push.new.self.items c.in_ok-push.ensures.items c.loop.invariant one
