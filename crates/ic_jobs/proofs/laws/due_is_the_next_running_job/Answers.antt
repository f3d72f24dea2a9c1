use Rattle.std.proofs.Common.{◌≡◌, ◌≤◌, ◌<◌, ℕ, List, None, Some, inl, inr, refl, sym, ap, subst, ◌∙◌}
use Rattle.ic_flights.specs.Flight.{FlightParts}
use Rattle.ic_jobs.specs.Job.{JobParts}
use Rattle.ic_jobs.specs.Landing.{due}
use Rattle.ic_jobs.specs.Turns.{RunsAt, IsFlightOf}
use Rattle.ic_jobs.proofs.TurnLemmas.{what_is_due, flight_due}
use Rattle.ic_jobs.proofs.laws.due_is_the_next_running_job.Goals as goal

nothing : (t : List JobParts) (after : ℕ) → due t after ≡ None → (k : ℕ) → ¬ RunsAt t k
nothing t after e = elim (what_is_due t after) [
  | inl h ↦ let both = sym h.1.is ∙ e in cc
  | inr h ↦ h.none
]

idle : (t : List JobParts) (after : ℕ) → ((k : ℕ) → ¬ RunsAt t k) → due t after ≡ None
idle t after none = elim (what_is_due t after) [
  | inl h ↦ absurd (none h.0 h.1.runs_there)
  | inr h ↦ h.is
]

pub returns-clause-none : goal.returns-clause-none
returns-clause-none c = λ t after. (nothing t after, idle t after)

pub returns-clause-job : goal.returns-clause-job
returns-clause-job c = λ t after f e.
    let d = flight_due t after f e in
    subst (λ (x : FlightParts). IsFlightOf t x) d.copied (record { runs = d.next.runs_there; copied = refl })

pub returns-clause-first_from_there : goal.returns-clause-first_from_there
returns-clause-first_from_there c = λ t after f e here k r low.
    let d = flight_due t after f e in
    let at : d.place ≡ f.place = ap (λ (x : FlightParts). x.place) d.copied in
    let there : after ≤ d.place = subst (λ (p : ℕ). after ≤ p) (sym at) here in
    subst (λ (p : ℕ). p ≤ k) at (d.next.first k r there low)

pub returns-clause-first_of_all : goal.returns-clause-first_of_all
returns-clause-first_of_all c = λ t after f e past k r.
    let d = flight_due t after f e in
    let at : d.place ≡ f.place = ap (λ (x : FlightParts). x.place) d.copied in
    let there : d.place < after = subst (λ (p : ℕ). p < after) (sym at) past in
    let all = d.next.of_all k r there in
    (subst (λ (p : ℕ). p ≤ k) at all.0, all.1)
