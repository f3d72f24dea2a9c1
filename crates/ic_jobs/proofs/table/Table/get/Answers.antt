use Rattle.std.proofs.Common.{Some, ap, sym, ◌∙◌}
use Rattle.ic_jobs.specs.Job.{JobParts}
use Rattle.ic_jobs.specs.Table.{job_named}
use Rattle.ic_jobs.proofs.PlaceLemmas.{read_at, nothing_at}
use Rattle.ic_jobs.proofs.table.Table.get.Goals as goal

pub returns-in_default-clause-job : goal.returns-in_default-clause-job
returns-in_default-clause-job c = sym (nothing_at c.args.name (c.deref.ensures.value ∙ c.self.view_is) c.in_default.ensures.place)

pub returns-clause-job : goal.returns-clause-job
returns-clause-job c =
    let read = read_at c.deref.ensures.value c.self.invariant.0 c.in-Some.ensures.place c.index.ensures in
    ap (λ (j : JobParts). Some j) read.same ∙ sym read.found.there ∙ ap (job_named c.args.name) c.self.view_is
