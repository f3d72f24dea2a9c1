use Rattle.std.proofs.Common.{◌≡◌, List, ap, sym, subst, set, ◌∙◌}
use Rattle.ic_round.specs.Rounds.{round}
use Rattle.ic_jobs.specs.declared.event.Event.TheVariants.{Round}
use Rattle.ic_jobs.specs.inner.States.{is_finished}
use Rattle.ic_jobs.specs.Job.{JobParts, moved, can_move}
use Rattle.ic_jobs.specs.Table.{IsTable}
use Rattle.ic_jobs.specs.Events.{apply}
use Rattle.ic_jobs.proofs.EventLemmas.{running_open}
use Rattle.ic_jobs.proofs.PlaceLemmas.{awaited_there, awaited_nowhere, can_land, round_kept, quiet_kept, landed, IsTable-advanced}
use Rattle.ic_jobs.proofs.table.Table.land_awaited.Goals as goal

pub returns-in_default : goal.returns-in_default
returns-in_default c = absurd (awaited_nowhere (c.deref.ensures.value ∙ c.self.view_is) c.name.ensures.name c.in_default.ensures.place c.requires)

pub advance-requires-clause-unfinished : goal.advance-requires-clause-unfinished
advance-requires-clause-unfinished c =
    let a = awaited_there c.deref.ensures.value c.self.view_is c.name.ensures.name c.self.invariant.0 c.in-Some.ensures.place c.requires c.index_mut.ensures.value in
    ap (λ (j : JobParts). is_finished j.state) a.same ∙ running_open a.found.job.state a.runs

pub advance-requires-clause-can : goal.advance-requires-clause-can
advance-requires-clause-can c =
    let a = awaited_there c.deref.ensures.value c.self.view_is c.name.ensures.name c.self.invariant.0 c.in-Some.ensures.place c.requires c.index_mut.ensures.value in
    ap can_move a.same ∙ can_land c.args.played a.found.job c.into_after-after.ensures.sound a.agrees

pub advance-requires-clause-round : goal.advance-requires-clause-round
advance-requires-clause-round c =
    let a = awaited_there c.deref.ensures.value c.self.view_is c.name.ensures.name c.self.invariant.0 c.in-Some.ensures.place c.requires c.index_mut.ensures.value in
    c.into_after-after.ensures.after ∙ round_kept c.args.played a.found.job c.into_after-after.ensures.sound a.agrees
    ∙ ap (λ (j : JobParts). round j.rules.rules j.config) (sym a.same)

pub advance-requires-clause-quiet : goal.advance-requires-clause-quiet
advance-requires-clause-quiet c =
    let a = awaited_there c.deref.ensures.value c.self.view_is c.name.ensures.name c.self.invariant.0 c.in-Some.ensures.place c.requires c.index_mut.ensures.value in
    c.is_quiet-quiet.ensures.quiet ∙ quiet_kept c.args.played a.found.job _ _ a.agrees a.same c.into_after-after.ensures.after

pub invariant_of-self : goal.invariant_of-self
invariant_of-self c =
    let a = awaited_there c.deref.ensures.value c.self.view_is c.name.ensures.name c.self.invariant.0 c.in-Some.ensures.place c.requires c.index_mut.ensures.value in (
      subst (λ (j : JobParts). IsTable (set c.self.inside.jobs.items c.in-Some.place j)) (sym (c.advance.ensures ∙ ap moved a.same))
          (IsTable-advanced _ _ _ _ a.found c.self.invariant.0 (running_open a.found.job.state a.runs) (can_land c.args.played a.found.job c.into_after-after.ensures.sound a.agrees)),
      tt,
    )

pub returns : goal.returns
returns c =
    let a = awaited_there c.deref.ensures.value c.self.view_is c.name.ensures.name c.self.invariant.0 c.in-Some.ensures.place c.requires c.index_mut.ensures.value in
    ap (λ (t : List JobParts). apply t (Round c.args.played.name)) (sym c.self.view_is)
    ∙ landed c.args.played.name c.self.inside.jobs.items _ c.in-Some.place _ a.found a.runs (can_land c.args.played a.found.job c.into_after-after.ensures.sound a.agrees)
    (ap (set c.self.inside.jobs.items c.in-Some.place) (c.advance.ensures ∙ ap moved a.same))
