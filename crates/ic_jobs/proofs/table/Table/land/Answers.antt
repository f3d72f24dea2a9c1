use Rattle.std.proofs.Common.{◌≡◌, List, ap, sym, subst, refl, set, ◌∙◌}
use Rattle.ic_round.specs.Rounds.{round}
use Rattle.ic_jobs.specs.declared.event.Event.TheVariants.{Round}
use Rattle.ic_jobs.specs.inner.States.{is_finished}
use Rattle.ic_jobs.specs.Job.{JobParts, moved, can_move}
use Rattle.ic_jobs.specs.Table.{IsTable}
use Rattle.ic_jobs.specs.Events.{apply}
use Rattle.ic_jobs.proofs.EventLemmas.{running_open}
use Rattle.ic_jobs.proofs.PlaceLemmas.{awaited_at, can_land, round_kept, quiet_kept, landed, IsTable-advanced}
use Rattle.ic_jobs.proofs.table.Table.land.Goals as goal

pub advance-requires-clause-unfinished : goal.advance-requires-clause-unfinished
advance-requires-clause-unfinished c =
    let a = awaited_at c.deref.ensures.value c.name.ensures.name c.rules.ensures.rules c.before-2.ensures.before c.rounds.ensures.rounds
    c.self.invariant.0 c.in-Some.ensures.place (c.in-Some.ensures.awaited.0 refl) c.index_mut.ensures.value in
    ap (λ (j : JobParts). is_finished j.state) a.same ∙ running_open a.found.job.state a.runs

pub advance-requires-clause-can : goal.advance-requires-clause-can
advance-requires-clause-can c =
    let a = awaited_at c.deref.ensures.value c.name.ensures.name c.rules.ensures.rules c.before-2.ensures.before c.rounds.ensures.rounds
    c.self.invariant.0 c.in-Some.ensures.place (c.in-Some.ensures.awaited.0 refl) c.index_mut.ensures.value in
    ap can_move a.same ∙ can_land c.args.played a.found.job c.into_after-after.ensures.sound a.agrees

pub advance-requires-clause-round : goal.advance-requires-clause-round
advance-requires-clause-round c =
    let a = awaited_at c.deref.ensures.value c.name.ensures.name c.rules.ensures.rules c.before-2.ensures.before c.rounds.ensures.rounds
    c.self.invariant.0 c.in-Some.ensures.place (c.in-Some.ensures.awaited.0 refl) c.index_mut.ensures.value in
    c.into_after-after.ensures.after ∙ round_kept c.args.played a.found.job c.into_after-after.ensures.sound a.agrees
    ∙ ap (λ (j : JobParts). round j.rules.rules j.config) (sym a.same)

pub advance-requires-clause-quiet : goal.advance-requires-clause-quiet
advance-requires-clause-quiet c =
    let a = awaited_at c.deref.ensures.value c.name.ensures.name c.rules.ensures.rules c.before-2.ensures.before c.rounds.ensures.rounds
    c.self.invariant.0 c.in-Some.ensures.place (c.in-Some.ensures.awaited.0 refl) c.index_mut.ensures.value in
    c.is_quiet-quiet.ensures.quiet ∙ quiet_kept c.args.played a.found.job _ _ a.agrees a.same c.into_after-after.ensures.after

pub invariant_of-self : goal.invariant_of-self
invariant_of-self c =
    let a = awaited_at c.deref.ensures.value c.name.ensures.name c.rules.ensures.rules c.before-2.ensures.before c.rounds.ensures.rounds
    c.self.invariant.0 c.in-Some.ensures.place (c.in-Some.ensures.awaited.0 refl) c.index_mut.ensures.value in (
      subst (λ (j : JobParts). IsTable (set c.self.inside.jobs.items c.in-Some.place j)) (sym (c.advance.ensures ∙ ap moved a.same))
          (IsTable-advanced _ _ _ _ a.found c.self.invariant.0 (running_open a.found.job.state a.runs) (can_land c.args.played a.found.job c.into_after-after.ensures.sound a.agrees)),
      tt,
    )

pub returns-clause-event : goal.returns-clause-event
returns-clause-event c = λ is.
    let a = awaited_at c.deref.ensures.value c.name.ensures.name c.rules.ensures.rules c.before-2.ensures.before c.rounds.ensures.rounds
    c.self.invariant.0 c.in-Some.ensures.place (c.in-Some.ensures.awaited.0 refl) c.index_mut.ensures.value in
    ap (λ (t : List JobParts). apply t (Round c.args.played.name)) (sym c.self.view_is)
    ∙ landed c.args.played.name c.self.inside.jobs.items _ c.in-Some.place _ a.found a.runs (can_land c.args.played a.found.job c.into_after-after.ensures.sound a.agrees)
    (ap (set c.self.inside.jobs.items c.in-Some.place) (c.advance.ensures ∙ ap moved a.same))

pub awaited_place-requires : goal.awaited_place-requires
awaited_place-requires c = subst (λ (l : List JobParts). IsTable l) (sym c.deref.ensures.value) c.self.invariant.0
