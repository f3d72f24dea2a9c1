use Rattle.std.proofs.Common.{◌≡◌, List, sym, subst, arith}
use Rattle.std.proofs.lemmas.Grind.{common_steps}
use Rattle.ic_jobs.specs.Job.{JobParts}
use Rattle.ic_jobs.specs.Table.{IsTable}
use Rattle.ic_jobs.proofs.table.Table.copy.Goals as goal

pub invariant_of-result : goal.invariant_of-result
invariant_of-result c =
    let whole : c.loop-job.jobs.items ≡ c.self.inside.jobs.items = grind (arith, common_steps, c.deref-job-items.ensures.value) in
    (subst (λ (l : List JobParts). IsTable l) (sym whole) c.self.invariant.0, tt)
