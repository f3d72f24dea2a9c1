use Rattle.std.proofs.Common.{◌++◌, ◌∷◌, [], ap, sym, subst, ◌∙◌}
use Rattle.ic_jobs.specs.Job.{JobParts, IsJob}
use Rattle.ic_jobs.specs.inner.Beginnings.{refusal_to_begin}
use Rattle.ic_jobs.proofs.PlaceLemmas.{IsTable-begun}
use Rattle.ic_jobs.proofs.table.Table.submit.Goals as goal

pub invariant_of-self-2 : goal.invariant_of-self-2
invariant_of-self-2 c = (
  IsTable-begun c.args.name c.args.system c.args.budget c.self.inside.jobs.items _ c.self.invariant.0
      (subst (λ (j : JobParts). IsJob j) c.in_ok-job.ensures.job c.in_ok-job.ensures.sound)
      (ap (refusal_to_begin c.args.name) c.self.view_is ∙ sym c.in_default.ensures)
      (c.in_ok-push.ensures.items ∙ ap (λ (j : JobParts). c.self.inside.jobs.items ++ j ∷ []) c.in_ok-job.ensures.job),
  tt,
)
