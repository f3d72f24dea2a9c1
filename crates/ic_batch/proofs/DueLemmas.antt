-- The round that is due from the place of a job that goes on.
use Rattle.std.proofs.Common.{◌≡◌, ⊎_elim, ℕ, zero, suc, ◌<◌, ◌≤◌, ◌==◌, List, [], ◌∷◌, Bool, true, false, not, ◌&&◌, ◌||◌, Option, None, Some, refl, sym, ap, subst, ◌∙◌, arith}
use Rattle.std.specs.Prelude.{◌↔◌, IfNone, IfSome, IsTrue, nat_lt, slice_get}
use Rattle.std.specs.List.{AllByRecursion}
use Rattle.std.proofs.lemmas.Bool.{and_parts, cases_lt, eq-eqb, ltb-false}
use Rattle.ic_disk.specs.declared.disk.Disk.{Ghosts}
use Rattle.ic_round.specs.Rounds.{fits}
use Rattle.ic_flights.specs.Flight.{FlightParts, is_blocked}
use Rattle.ic_flights.specs.declared.limits.TheConstants.{MAX_ROUNDS}
use Rattle.ic_jobs.specs.declared.event.Event.TheVariants.{Round}
use Rattle.ic_jobs.specs.declared.state.State.{State}
use Rattle.ic_jobs.specs.declared.state.State.TheVariants.{Running}
use Rattle.ic_jobs.specs.State.{is_running}
use Rattle.ic_jobs.specs.Job.{IsJob, JobParts, can_move}
use Rattle.ic_jobs.specs.Table.{IsTable, job_named}
use Rattle.ic_jobs.specs.History.{table_after}
use Rattle.ic_jobs.specs.Landing.{Awaits, due, flight_of}
use Rattle.ic_jobs.specs.Turns.{RunsAt, IsFlightOf}
use Rattle.ic_book.specs.declared.book.Book.{Book}
use Rattle.ic_book.specs.Book.{table_of}
use Rattle.ic_serving.specs.Booked.{MakesRound}
use Rattle.ic_batch.specs.Way.{goes_on}
use Rattle.ic_batch.proofs.WayLemmas.{runs}
use Rattle.ic_serving.specs.declared.limits.TheConstants.{PAGE_WEIGHT}

pub running_is : (s : State) → is_running s ≡ true → s ≡ Running
running_is Running is = refl
running_is s is = cc

pub few : (most : ℕ) (j : JobParts) → goes_on most j ≡ true → nat_lt j.rounds most ≡ true
few most j goes = (and_parts (is_running j.state) (nat_lt j.rounds most) goes).1

-- of a job that can't move the flight is blocked
blocked_by : (b : Bool) (n : ℕ) → n ≤ MAX_ROUNDS → (b && nat_lt n MAX_ROUNDS) ≡ false → (not b || n == MAX_ROUNDS) ≡ true
blocked_by false n most none = refl
blocked_by true n most none = (let least = ltb-false n MAX_ROUNDS none in eq-eqb n MAX_ROUNDS (omega (arith, most, least)))

-- what each of some jobs is, that at a place is
pub at_place : (P : JobParts → Type 0) (t : List JobParts) (place : ℕ) (j : JobParts) → AllByRecursion P t → slice_get t place ≡ Some j → P j
at_place P [] place j each there = cc
at_place P (x ∷ xs) zero j each there = (let same : x ≡ j = cc in subst P same each.0)
at_place P (x ∷ xs) (suc place) j each there = at_place P xs place j each.1 there

-- the laws of what is due
pub record DueLaws : Type 0 where
  pub none : (t : List JobParts) (after : ℕ) → (due t after ≡ None) ↔ ((k : ℕ) → ¬ RunsAt t k)
  pub job : (t : List JobParts) (after : ℕ) (f : FlightParts) → due t after ≡ Some f → IsFlightOf t f
  pub from_there : (t : List JobParts) (after : ℕ) (f : FlightParts) → due t after ≡ Some f → after ≤ f.place → (k : ℕ) → RunsAt t k → after ≤ k → f.place ≤ k
  pub of_all : (t : List JobParts) (after : ℕ) (f : FlightParts) → due t after ≡ Some f → f.place < after → (k : ℕ) → RunsAt t k → (f.place ≤ k) × (k < after)
  pub awaits : (t : List JobParts) (after : ℕ) (f : FlightParts) → IsTable t → due t after ≡ Some f → Awaits t f.name f.rules f.config f.rounds

-- a round was made of a job that goes on
pub record IsMade (most : ℕ) (t u : List JobParts) : Type 0 where
  pub name : List ℕ
  pub job : JobParts
  pub there : job_named name t ≡ Some job
  pub goes : goes_on most job ≡ true
  pub table : u ≡ table_after t (Round name)

module _ (laws : DueLaws) (most : ℕ) (t : List JobParts) (is_table : IsTable t) (place : ℕ) (j : JobParts) (at : slice_get t place ≡ Some j) (goes : goes_on most j ≡ true) where
  here : RunsAt t place
  here = record { job = j; there = at; running = running_is j.state (runs most j goes) }

  pub not_none : due t place ≡ None → ⊥
  not_none none = (laws.none t place).0 none place here

  due_here : (f : FlightParts) → due t place ≡ Some f → f.place ≡ place
  due_here f is = ⊎_elim
      (λ (less : f.place < place). (let e = laws.of_all t place f is less place here in let a = e.1 in omega (arith, a)))
      (λ (more : place ≤ f.place). (let e = laws.from_there t place f is more place here (omega arith) in omega (arith, e, more)))
      (cases_lt f.place place)

  pub made : (u : List JobParts) (f : FlightParts) → due t place ≡ Some f → u ≡ table_after t (Round f.name) → IsMade most t u
  made u f is table =
      let of_job = laws.job t place f is in
      let found : slice_get t place ≡ Some of_job.runs.job = ap (λ (k : ℕ). slice_get t k) (sym (due_here f is)) ∙ of_job.runs.there in
      let same : of_job.runs.job ≡ j = (let e = sym found ∙ at in cc) in
      let awaited = laws.awaits t place f is_table is in
      let rounds : awaited.job.rounds ≡ j.rounds = awaited.agrees.same_rounds ∙ ap (λ (g : FlightParts). g.rounds) of_job.copied ∙ ap (λ (k : JobParts). k.rounds) same in
      record {
        name = f.name;
        job = awaited.job;
        there = awaited.there;
        goes = ap (λ (s : State). is_running s && nat_lt awaited.job.rounds most) awaited.running ∙ ap (λ (n : ℕ). nat_lt n most) rounds ∙ few most j goes;
        table = table;
      }

  -- where it can make no round, what is due is blocked
  blocked : can_move j ≡ false → (f : FlightParts) → due t place ≡ Some f → IsTrue (is_blocked f)
  blocked none f is =
      let of_job = laws.job t place f is in
      let found : slice_get t place ≡ Some of_job.runs.job = ap (λ (k : ℕ). slice_get t k) (sym (due_here f is)) ∙ of_job.runs.there in
      let same : of_job.runs.job ≡ j = (let e = sym found ∙ at in cc) in
      let copied : f ≡ flight_of f.place j = of_job.copied ∙ ap (flight_of f.place) same in
      subst (λ (g : FlightParts). is_blocked g ≡ true) (sym copied) (blocked_by (fits j.rules.rules j.config) j.rounds (at_place IsJob t place j is_table.each at).counted none)

  pub if_blocked : can_move j ≡ false → (P : Type 0) → ((f : FlightParts) → due t place ≡ Some f → IsTrue (is_blocked f) → P) → P
  if_blocked none P told = go (due t place) refl
    where
      go : (o : Option FlightParts) → due t place ≡ o → P
      go None is = absurd (not_none is)
      go (Some f) is = told f is (blocked none f is)

-- the same of a book
pub made_over : {D : Type 0} {ghosts : Ghosts D} (laws : DueLaws) (most : ℕ) (old new : Book D ghosts) (is_table : IsTable (table_of old)) (place : ℕ)
    → (job : JobParts) × (slice_get (table_of old) place ≡ Some job) × (goes_on most job ≡ true)
    → (r : Option ℕ) → IfNone r (due (table_of old) place ≡ None) → IfSome r (λ here. MakesRound PAGE_WEIGHT place here old new)
    → (here : ℕ) × MakesRound PAGE_WEIGHT place here old new
made_over laws most old new is_table place found None none some = absurd (not_none laws most (table_of old) is_table place found.0 found.1 found.2 none)
made_over laws most old new is_table place found (Some here) none some = (here, some)
