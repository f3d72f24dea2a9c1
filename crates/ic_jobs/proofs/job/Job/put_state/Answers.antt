use Rattle.std.proofs.Common.{◌∙◌}
use Rattle.ic_jobs.specs.inner.States.{is_finished}
use Rattle.ic_jobs.proofs.JobLemmas.{IsJob-in_state}
use Rattle.ic_jobs.proofs.job.Job.put_state.Goals as goal

pub invariant_of-self : goal.invariant_of-self
invariant_of-self c = IsJob-in_state c.args.state _ c.self.invariant ((λ i. is_finished (c.self.view_is i).state) ∙ c.requires.old) c.requires.new
