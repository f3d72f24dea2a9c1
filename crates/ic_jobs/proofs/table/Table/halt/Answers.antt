use Rattle.std.proofs.Common.{◌≡◌, List, ap, sym, subst, refl, set, ◌∙◌}
use Rattle.ic_jobs.specs.declared.state.State.TheVariants as state
use Rattle.ic_jobs.specs.declared.event.Event.TheVariants.{Round}
use Rattle.ic_jobs.specs.inner.States.{is_finished}
use Rattle.ic_jobs.specs.Job.{JobParts, in_state}
use Rattle.ic_jobs.specs.Table.{IsTable}
use Rattle.ic_jobs.specs.Events.{apply}
use Rattle.ic_jobs.proofs.EventLemmas.{running_open}
use Rattle.ic_jobs.proofs.PlaceLemmas.{awaited_at, cannot_land, halted_here, IsTable-put_state}
use Rattle.ic_jobs.proofs.table.Table.halt.Goals as goal

pub put_state-requires-clause-old : goal.put_state-requires-clause-old
put_state-requires-clause-old c =
    let a = awaited_at c.deref.ensures.value c.name.ensures.name c.rules.ensures.rules c.config.ensures.config c.rounds.ensures.rounds
    c.self.invariant.0 c.in-Some.ensures.place (c.in-Some.ensures.awaited.0 refl) c.index_mut.ensures.value in
    ap (λ (j : JobParts). is_finished j.state) a.same ∙ running_open a.found.job.state a.runs

pub invariant_of-self : goal.invariant_of-self
invariant_of-self c =
    let a = awaited_at c.deref.ensures.value c.name.ensures.name c.rules.ensures.rules c.config.ensures.config c.rounds.ensures.rounds
    c.self.invariant.0 c.in-Some.ensures.place (c.in-Some.ensures.awaited.0 refl) c.index_mut.ensures.value in (
      subst (λ (j : JobParts). IsTable (set c.self.inside.jobs.items c.in-Some.place j)) (sym (c.put_state.ensures ∙ ap (in_state state.Halted) a.same))
          (IsTable-put_state _ _ _ _ a.found state.Halted c.self.invariant.0 (running_open a.found.job.state a.runs) refl),
      tt,
    )

pub returns-clause-event : goal.returns-clause-event
returns-clause-event c = λ is.
    let a = awaited_at c.deref.ensures.value c.name.ensures.name c.rules.ensures.rules c.config.ensures.config c.rounds.ensures.rounds
    c.self.invariant.0 c.in-Some.ensures.place (c.in-Some.ensures.awaited.0 refl) c.index_mut.ensures.value in
    ap (λ (t : List JobParts). apply t (Round c.args.flight.now.name)) (sym c.self.view_is)
    ∙ halted_here c.args.flight.now.name c.self.inside.jobs.items _ c.in-Some.place _ a.found a.runs (cannot_land c.args.flight.now a.found.job c.requires a.agrees)
    (ap (set c.self.inside.jobs.items c.in-Some.place) (c.put_state.ensures ∙ ap (in_state state.Halted) a.same))

pub awaited_place-requires : goal.awaited_place-requires
awaited_place-requires c = subst (λ (l : List JobParts). IsTable l) (sym c.deref.ensures.value) c.self.invariant.0
