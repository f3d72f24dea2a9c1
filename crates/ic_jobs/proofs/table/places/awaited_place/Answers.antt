use Rattle.std.proofs.Common.{◌≡◌, List, Some, None, true, false, ap, sym, refl, ◌∙◌}
use Rattle.std.specs.List.{position_from}
use Rattle.std.proofs.lemmas.Bool.{false≢true}
use Rattle.ic_jobs.specs.State.{is_running}
use Rattle.ic_jobs.specs.Job.{JobParts}
use Rattle.ic_jobs.specs.Table.{IsTable, is_named}
use Rattle.ic_jobs.specs.Landing.{agrees}
use Rattle.ic_jobs.proofs.PlaceLemmas.{found_at, no_place, job_is, awaited_here, awaited_job, not_awaited}
use Rattle.ic_jobs.proofs.table.places.awaited_place.Goals as goal
use Rattle.ic_jobs.proofs.table.places.awaited_place.Goals.{else-is_running-via-then-is_running+else-agrees, else-is_running-via-else-is_running}

pub returns-in_default-clause-awaited : goal.returns-in_default-clause-awaited
returns-in_default-clause-awaited c = (
  λ e. absurd (false≢true e),
  λ a. absurd (not_awaited _ _ _ _ _ (no_place c.args.name c.args.jobs.now (sym c.in_default.ensures.place)) a),
)

pub returns-then-agrees-clause-awaited : goal.returns-then-agrees-clause-awaited
returns-then-agrees-clause-awaited c = (
  (λ e.
      let f = found_at c.args.name c.args.jobs.now c.in-Some.place c.index-jobs-place.result c.requires (sym c.in-Some.ensures.place) in
      awaited_here _ _ _ _ f _ _ _ (job_is _ _ _ _ f c.index-jobs-place.is)
      (ap is_running (sym c.state.ensures.state) ∙ sym c.is_running.ensures ∙ c.if-is_running.true) (sym c.agrees.ensures ∙ c.if-agrees.true)),
  λ a. refl,
)

pub returns-else-is_running-clause-awaited : goal.returns-else-is_running-clause-awaited
returns-else-is_running-clause-awaited c = (
  λ e. absurd (false≢true e),
  λ a.
      let f = found_at c.args.name c.args.jobs.now c.in-Some.place c.index-jobs-place.result c.requires (sym c.in-Some.ensures.place) in
      let both = awaited_job _ _ _ _ f _ _ _ (job_is _ _ _ _ f c.index-jobs-place.is) a in
      elim c.else-is_running.branch [
        | else-is_running-via-then-is_running+else-agrees w ↦ absurd (false≢true (sym w.if-agrees.false ∙ w.agrees.ensures ∙ both.1))
        | else-is_running-via-else-is_running w ↦ absurd (false≢true (sym w.if-is_running.false ∙ c.is_running.ensures ∙ ap is_running c.state.ensures.state ∙ both.0))
      ],
)
