use Rattle.std.proofs.Common.{List, ap, sym, subst, ◌∙◌}
use Rattle.ic_jobs.specs.declared.command.Command.TheVariants.{Cancel}
use Rattle.ic_jobs.specs.Job.{JobParts}
use Rattle.ic_jobs.specs.Table.{IsTable}
use Rattle.ic_jobs.specs.Events.{after_command}
use Rattle.ic_jobs.proofs.PlaceLemmas.{found_in, nothing_at, missing_here, cancel_done, IsTable-removed}
use Rattle.ic_jobs.proofs.table.Table.cancel.Goals as goal

pub returns-in_default : goal.returns-in_default
returns-in_default c = missing_here c.args.self.now _ _ (nothing_at c.args.name (c.deref.ensures.value ∙ c.self.view_is) c.in_default.ensures.place)

pub invariant_of-self : goal.invariant_of-self
invariant_of-self c =
    let f = found_in c.deref.ensures.value c.self.invariant.0 c.in-Some.ensures.place c.remove-job.result in
    (subst (λ (l : List JobParts). IsTable l) (sym c.remove-job.ensures.items) (IsTable-removed _ _ _ _ f c.self.invariant.0), tt)

pub returns : goal.returns
returns c =
    let f = found_in c.deref.ensures.value c.self.invariant.0 c.in-Some.ensures.place c.remove-job.result in
    cancel_done c.args.name c.self.inside.jobs.items _ c.in-Some.place _ f c.remove-job.ensures.items
    ∙ ap (λ (t : List JobParts). after_command t (Cancel c.args.name)) c.self.view_is
