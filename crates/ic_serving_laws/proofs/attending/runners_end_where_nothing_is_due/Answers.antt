use Rattle.std.proofs.Common.{◌≡◌, ℕ, List, true, false, Some, sym, ap, subst, ◌∙◌}
use Rattle.std.specs.Prelude.{slice_get}
use Rattle.std.specs.List.{All}
use Rattle.std.proofs.lemmas.Option.{get_or_from_slice_get, slice_get_within}
use Rattle.ic_jobs.specs.Job.{JobParts}
use Rattle.ic_jobs.specs.State.{is_running}
use Rattle.ic_jobs.specs.Turns.{RunsAt}
use Rattle.ic_book.specs.Book.{log_of, table_of}
use Rattle.ic_attend.specs.declared.attended.RunnerEnd.TheVariants.{Idle, Turns}
use Rattle.ic_attend.specs.Runners.{EndHolds, NoneRuns}
use Rattle.ic_serving_laws.proofs.attending.runners_end_where_nothing_is_due.Goals as goal

-- what holds of each element holds of the one at a place
at_place : {X : Type 0} (P : X → Type 0) (xs : List X) (k : ℕ) (x : X) → All P xs → slice_get xs k ≡ Some x → P x
at_place P xs k x all is = subst P (get_or_from_slice_get xs k x x is) (all k x (slice_get_within xs k x is))

none_at : (t : List JobParts) → NoneRuns t → (k : ℕ) → RunsAt t k → ⊥
none_at t none k runs =
    let stands : is_running runs.job.state ≡ false = at_place (λ j. is_running j.state ≡ false) t k runs.job none runs.there in
    let no : true ≡ false = sym (ap is_running runs.running) ∙ stands in
    absurd (let bad : true ≡ false = no in cc)

pub returns-clause-idle : goal.returns-clause-idle
returns-clause-idle g c = λ scripts runners turns k after history is.
    let a = c.args.attended.now in
    let none : NoneRuns (table_of a.book) = at_place (EndHolds turns (table_of a.book) (log_of a.book)) a.ends.items k Idle history.ends is in
    (c.due_is_the_next_running_job.ensures.none (table_of a.book) after).1 (none_at (table_of a.book) none)

pub returns-clause-turns : goal.returns-clause-turns
returns-clause-turns g c = λ scripts runners turns k taken history is.
    let a = c.args.attended.now in
    at_place (EndHolds turns (table_of a.book) (log_of a.book)) a.ends.items k (Turns taken) history.ends is
