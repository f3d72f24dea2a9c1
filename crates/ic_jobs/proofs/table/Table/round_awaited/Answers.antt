use Rattle.std.proofs.Common.{List, ap, sym, subst, set, ◌∙◌}
use Rattle.ic_jobs.specs.declared.event.Event.TheVariants.{Round}
use Rattle.ic_jobs.specs.inner.States.{is_finished}
use Rattle.ic_jobs.specs.Job.{JobParts, moved, can_move}
use Rattle.ic_jobs.specs.Table.{IsTable}
use Rattle.ic_jobs.specs.Events.{apply}
use Rattle.ic_jobs.proofs.EventLemmas.{running_open}
use Rattle.ic_jobs.proofs.PlaceLemmas.{running_there, landed, IsTable-advanced}
use Rattle.ic_jobs.proofs.table.Table.round_awaited.Goals as goal

pub round_in-requires : goal.round_in-requires
round_in-requires c =
    let a = running_there c.deref.ensures.value c.self.view_is c.self.invariant.0 c.in-Some.ensures.place c.requires c.index_mut.ensures.value in
    record { unfinished = ap (λ (j : JobParts). is_finished j.state) a.same ∙ running_open a.found.job.state a.runs }

pub invariant_of-self-2 : goal.invariant_of-self-2
invariant_of-self-2 c =
    let a = running_there c.deref.ensures.value c.self.view_is c.self.invariant.0 c.in-Some.ensures.place c.requires c.index_mut.ensures.value in (
      subst (λ (j : JobParts). IsTable (set c.self.inside.jobs.items c.in-Some.place j)) (sym (c.round_in.ensures.moved c.if-not-round_in.false ∙ ap moved a.same))
          (IsTable-advanced _ _ _ _ a.found c.self.invariant.0 (running_open a.found.job.state a.runs) (ap can_move (sym a.same) ∙ c.round_in.ensures.can c.if-not-round_in.false)),
      tt,
    )

pub returns-clause-event : goal.returns-clause-event
returns-clause-event c = λ is.
    let a = running_there c.deref.ensures.value c.self.view_is c.self.invariant.0 c.in-Some.ensures.place c.requires c.index_mut.ensures.value in
    ap (λ (t : List JobParts). apply t (Round c.args.name)) (sym c.self.view_is)
    ∙ landed c.args.name c.self.inside.jobs.items _ c.in-Some.place _ a.found a.runs (ap can_move (sym a.same) ∙ c.round_in.ensures.can c.if-not-round_in.false)
    (ap (set c.self.inside.jobs.items c.in-Some.place) (c.round_in.ensures.moved c.if-not-round_in.false ∙ ap moved a.same))
