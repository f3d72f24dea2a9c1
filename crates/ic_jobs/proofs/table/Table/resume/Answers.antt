use Rattle.std.proofs.Common.{◌≡◌, List, ap, sym, subst, refl, set, ◌∙◌, true, false}
use Rattle.ic_jobs.specs.declared.command.Command.TheVariants.{Resume}
use Rattle.ic_jobs.specs.declared.state.State.TheVariants as state
use Rattle.ic_jobs.specs.declared.reply.Refusal.TheVariants.{NotPaused}
use Rattle.ic_jobs.specs.State.{is_paused}
use Rattle.ic_jobs.specs.Job.{JobParts, in_state}
use Rattle.ic_jobs.specs.Table.{IsTable}
use Rattle.ic_jobs.specs.Events.{refused, after_command}
use Rattle.ic_jobs.proofs.EventLemmas.{paused_open}
use Rattle.ic_jobs.proofs.PlaceLemmas.{read_at, read_twice, nothing_at, missing_here, resume_refused, resume_done, IsTable-put_state}
use Rattle.ic_jobs.proofs.table.Table.resume.Goals as goal

pub returns-in_default : goal.returns-in_default
returns-in_default c = missing_here c.args.self.now _ _ (nothing_at c.args.name (c.deref.ensures.value ∙ c.self.view_is) c.in_default.ensures.place)

pub returns-then-not-is_paused : goal.returns-then-not-is_paused
returns-then-not-is_paused c =
    let first = read_at c.deref.ensures.value c.self.invariant.0 c.in-Some.ensures.place c.index.ensures in
    let apart : is_paused c.index.result.now.state ≡ false = ap is_paused (sym c.state.ensures.state) ∙ sym c.is_paused.ensures ∙ c.if-not-is_paused.true in
    subst (λ (t : List JobParts). refused t NotPaused ≡ after_command t (Resume c.args.name)) c.self.view_is
    (resume_refused c.args.name c.self.inside.jobs.items c.in-Some.place _ first.found first.same apart)

pub invariant_of-self : goal.invariant_of-self
invariant_of-self c =
    let first = read_at c.deref.ensures.value c.self.invariant.0 c.in-Some.ensures.place c.index.ensures in
    let again = read_at c.deref.ensures.value c.self.invariant.0 c.in-Some.ensures.place c.index_mut.ensures.value in
    let holds : is_paused again.found.job.state ≡ true =
    ap (λ (j : JobParts). is_paused j.state) (sym again.same ∙ sym (read_twice first again)) ∙ ap is_paused (sym c.state.ensures.state) ∙ sym c.is_paused.ensures ∙ c.if-not-is_paused.false in (
      subst (λ (j : JobParts). IsTable (set c.self.inside.jobs.items c.in-Some.place j)) (sym (c.put_state.ensures ∙ ap (in_state state.Running) again.same))
          (IsTable-put_state _ _ _ _ again.found state.Running c.self.invariant.0 (paused_open again.found.job.state holds) refl),
      tt,
    )

pub returns : goal.returns
returns c =
    let first = read_at c.deref.ensures.value c.self.invariant.0 c.in-Some.ensures.place c.index.ensures in
    let again = read_at c.deref.ensures.value c.self.invariant.0 c.in-Some.ensures.place c.index_mut.ensures.value in
    let holds : is_paused c.index_mut.result.now.state ≡ true =
    ap (λ (j : JobParts). is_paused j.state) (sym (read_twice first again)) ∙ ap is_paused (sym c.state.ensures.state) ∙ sym c.is_paused.ensures ∙ c.if-not-is_paused.false in
    resume_done c.args.name c.self.inside.jobs.items _ c.in-Some.place _ again.found again.same holds
    (ap (set c.self.inside.jobs.items c.in-Some.place) (c.put_state.ensures ∙ ap (in_state state.Running) again.same))
    ∙ ap (λ (t : List JobParts). after_command t (Resume c.args.name)) c.self.view_is
