use Rattle.std.proofs.Common.{◌≡◌, ◌++◌, ◌∷◌, [], List, Some, None, ap, sym, subst, ◌∙◌}
use Rattle.std.specs.List.{position_from}
use Rattle.ic_jobs.specs.declared.command.Command.TheVariants.{CopyJob}
use Rattle.ic_jobs.specs.Job.{JobParts, IsJob, system_of}
use Rattle.ic_jobs.specs.Table.{IsTable, is_named}
use Rattle.ic_jobs.specs.Events.{after_command}
use Rattle.ic_jobs.specs.inner.Beginnings.{refusal_to_begin}
use Rattle.ic_jobs.proofs.PlaceLemmas.{read_at, nothing_at, missing_here, begin_done, copies_here, copy_refused, IsTable-begun}
use Rattle.ic_jobs.proofs.table.Table.copy_job.Goals as goal

pub returns-in_default-clause-event : goal.returns-in_default-clause-event
returns-in_default-clause-event c = missing_here c.args.self.now _ _ (nothing_at c.args.old (c.deref.ensures.value ∙ c.self.view_is) c.in_default.ensures.place)

pub returns-in-Some-refuses-clause-event : goal.returns-in-Some-refuses-clause-event
returns-in-Some-refuses-clause-event c =
    let is : IsTable c.args.self.now = subst (λ (l : List JobParts). IsTable l) c.self.view_is c.self.invariant.0 in
    let same = c.deref.ensures.value ∙ c.self.view_is in
    let place : position_from (is_named c.args.old) 0 c.args.self.now ≡ Some c.in-Some.place =
    ap (λ (l : List JobParts). position_from (is_named c.args.old) 0 l) (sym same) ∙ sym c.in-Some.ensures.place in
    copy_refused c.args.old c.args.new c.args.self.now c.in-Some.place c.in-Some-refuses.refusal is place (sym c.in-Some-refuses.ensures)

pub invariant_of-self-2 : goal.invariant_of-self-2
invariant_of-self-2 c = (
  IsTable-begun c.args.new (system_of c.index.result.now) None c.self.inside.jobs.items _ c.self.invariant.0
      (subst (λ (j : JobParts). IsJob j) c.in_ok-job.ensures.job c.in_ok-job.ensures.sound)
      (ap (refusal_to_begin c.args.new) c.self.view_is ∙ sym c.in_default-refuses.ensures)
      (c.in_ok-push.ensures.items ∙ ap (λ (j : JobParts). c.self.inside.jobs.items ++ j ∷ []) c.in_ok-job.ensures.job),
  tt,
)

pub returns-clause-event : goal.returns-clause-event
returns-clause-event c =
    let t = c.self.inside.jobs.items in
    let read = read_at c.deref.ensures.value c.self.invariant.0 c.in-Some.ensures.place c.index.ensures in
    begin_done c.args.new (system_of c.index.result.now) None t _
    (ap (refusal_to_begin c.args.new) c.self.view_is ∙ sym c.in_default-refuses.ensures)
    (c.in_ok-push.ensures.items ∙ ap (λ (j : JobParts). t ++ j ∷ []) c.in_ok-job.ensures.job)
    ∙ copies_here c.args.old c.args.new t c.in-Some.place c.index.result.now read.found read.same
    ∙ ap (λ (l : List JobParts). after_command l (CopyJob c.args.old c.args.new)) c.self.view_is
