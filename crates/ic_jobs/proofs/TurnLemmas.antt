-- The next running job of a table.
use Rattle.std.proofs.Common.{◌≡◌, ◌≤◌, ◌<◌, ◌⊎◌, ℕ, zero, suc, ◌+◌, ◌-◌, List, [], ◌∷◌, Bool, true, false, cond, Option, None, Some, slice_get, drop, inl, inr, refl, sym, ap, subst, ◌∙◌, arith}
use Rattle.std.specs.List.{position_from, AllByRecursion, IsDistinct}
use Rattle.std.specs.Str.{bytes_eq}
use Rattle.std.specs.Cmp.Lexicographic.{bytes_decides}
use Rattle.std.specs.Option.{option_map, option_or, option_and_then}
use Rattle.std.proofs.lemmas.Bool.{cases_lt}
use Rattle.ic_term.specs.Configuration.{Configuration}
use Rattle.ic_rules.specs.RuleSet.{Rules}
use Rattle.ic_flights.specs.Flight.{FlightParts}
use Rattle.ic_jobs.specs.declared.state.State.{State}
use Rattle.ic_jobs.specs.declared.state.State.TheVariants.{Running}
use Rattle.ic_jobs.specs.State.{is_running}
use Rattle.ic_jobs.specs.Job.{JobParts}
use Rattle.ic_jobs.specs.Landing.{flight_of, running_from, due_place, flight_at, due, Awaits}
use Rattle.ic_jobs.specs.Table.{IsTable, job_names, is_named, job_named}
use Rattle.ic_jobs.specs.Turns.{RunsAt, HasFlight}
use Rattle.ic_jobs.proofs.PlaceLemmas.{same_job}

abbrev runs : JobParts → Bool
runs j = is_running j.state

is_state : (s : State) → is_running s ≡ true → s ≡ Running
is_state Running e = refl
is_state _ e = cc

-- ---- a list of jobs from its front

-- the job at a place runs, and none before it
record FirstIn (xs : List JobParts) (n : ℕ) : Type 0 where
  job : JobParts
  there : slice_get xs n ≡ Some job
  running : runs job ≡ true
  first : (k : ℕ) (j : JobParts) → slice_get xs k ≡ Some j → runs j ≡ true → n ≤ k

after_one : (x : JobParts) (xs : List JobParts) (n : ℕ) → runs x ≡ false → FirstIn xs n → FirstIn (x ∷ xs) (suc n)
after_one x xs n other f = record {
  job = f.job;
  there = f.there;
  running = f.running;
  first = later;
}
  where
    later : (k : ℕ) (j : JobParts) → slice_get (x ∷ xs) k ≡ Some j → runs j ≡ true → suc n ≤ k
    later zero j e is = let same : x ≡ j = cc in let both = sym other ∙ ap runs same ∙ is in cc
    later (suc k) j e is = let low = f.first k j e is in omega arith

found_at : (x : JobParts) (xs : List JobParts) (s i : ℕ) (b : Bool) → runs x ≡ b
    → (position_from runs (s + 1) xs ≡ Some i → (n : ℕ) × ((s + 1 + n ≡ i) × FirstIn xs n))
    → cond b (Some s) (position_from runs (s + 1) xs) ≡ Some i → (n : ℕ) × ((s + n ≡ i) × FirstIn (x ∷ xs) n)
found_at x xs s i true is later e =
    let same : s ≡ i = cc in (0, (omega (arith, same), record { job = x; there = refl; running = is; first = λ k j at run. omega arith }))
found_at x xs s i false other later e =
    let found = later e in (suc found.0, (omega (arith, found.1.0), after_one x xs found.0 other found.1.1))

found_in : (s i : ℕ) (xs : List JobParts) → position_from runs s xs ≡ Some i → (n : ℕ) × ((s + n ≡ i) × FirstIn xs n)
found_in s i [] e = cc
found_in s i (x ∷ xs) e = found_at x xs s i (runs x) refl (found_in (s + 1) i xs) e

none_at : (x : JobParts) (xs : List JobParts) (s : ℕ) (b : Bool) → runs x ≡ b
    → (position_from runs (s + 1) xs ≡ None → (k : ℕ) (j : JobParts) → slice_get xs k ≡ Some j → runs j ≡ false)
    → cond b (Some s) (position_from runs (s + 1) xs) ≡ None → (k : ℕ) (j : JobParts) → slice_get (x ∷ xs) k ≡ Some j → runs j ≡ false
none_at x xs s true is later e k j at = cc
none_at x xs s false other later e zero j at = let same : x ≡ j = cc in sym (ap runs same) ∙ other
none_at x xs s false other later e (suc k) j at = later e k j at

none_in : (s : ℕ) (xs : List JobParts) → position_from runs s xs ≡ None → (k : ℕ) (j : JobParts) → slice_get xs k ≡ Some j → runs j ≡ false
none_in s [] e k j at = cc
none_in s (x ∷ xs) e k j at = none_at x xs s (runs x) refl (none_in (s + 1) xs) e k j at

-- ---- a table from a place on

get_drop : (s k : ℕ) (t : List JobParts) → slice_get (drop s t) k ≡ slice_get t (s + k)
get_drop zero k t = let same : 0 + k ≡ k = omega arith in ap (slice_get t) (sym same)
get_drop (suc s) k [] = refl
get_drop (suc s) k (x ∷ xs) =
    let same : suc s + k ≡ suc (s + k) = omega arith in get_drop s k xs ∙ sym (ap (slice_get (x ∷ xs)) same)

-- the first running job from a place on
record FirstFrom (t : List JobParts) (from i : ℕ) : Type 0 where
  runs_there : RunsAt t i
  reached : from ≤ i
  first : (k : ℕ) → RunsAt t k → from ≤ k → i ≤ k

at_drop : (t : List JobParts) (from k : ℕ) (j : JobParts) → from ≤ k → slice_get t k ≡ Some j → slice_get (drop from t) (k - from) ≡ Some j
at_drop t from k j low e = let same : from + (k - from) ≡ k = omega arith in get_drop from (k - from) t ∙ ap (slice_get t) same ∙ e

from_found : (t : List JobParts) (from i : ℕ) → running_from from t ≡ Some i → FirstFrom t from i
from_found t from i e =
    let found = found_in from i (drop from t) e in
    let f = found.1.1 in
    let at : from + found.0 ≡ i = found.1.0 in
    record {
      runs_there = record {
        job = f.job;
        there = sym (ap (slice_get t) at) ∙ sym (get_drop from found.0 t) ∙ f.there;
        running = is_state f.job.state f.running;
      };
      reached = omega (arith, at);
      first = λ k r low. let least : found.0 ≤ k - from = f.first (k - from) r.job (at_drop t from k r.job low r.there) (ap is_running r.running) in omega (arith, at);
    }

from_none : (t : List JobParts) (from : ℕ) → running_from from t ≡ None → (k : ℕ) → RunsAt t k → from ≤ k → ⊥
from_none t from e k r low =
    let idle : runs r.job ≡ false = none_in from (drop from t) e (k - from) r.job (at_drop t from k r.job low r.there) in
    let both = sym (ap is_running r.running) ∙ idle in cc

-- ---- what is due

-- a flight of the first running job from a place on, or of the first of all where none runs from there on
pub record IsNext (t : List JobParts) (after i : ℕ) : Type 0 where
  pub runs_there : RunsAt t i
  pub is : due t after ≡ Some (flight_of i runs_there.job)
  pub first : (k : ℕ) → RunsAt t k → after ≤ i → after ≤ k → i ≤ k
  pub of_all : (k : ℕ) → RunsAt t k → i < after → (i ≤ k) × (k < after)

due_at : (t : List JobParts) (after i : ℕ) (j : JobParts) → due_place t after ≡ Some i → slice_get t i ≡ Some j → due t after ≡ Some (flight_of i j)
due_at t after i j e at = ap (option_and_then (flight_at t)) e ∙ ap (option_map (flight_of i)) at

next_there : (t : List JobParts) (after i : ℕ) → running_from after t ≡ Some i → IsNext t after i
next_there t after i e =
    let f = from_found t after i e in
    record {
      runs_there = f.runs_there;
      is = due_at t after i f.runs_there.job (ap (λ (o : Option ℕ). option_or o (running_from 0 t)) e) f.runs_there.there;
      first = λ k r here low. f.first k r low;
      of_all = λ k r past. let low = f.reached in absurd (omega arith);
    }

before_it : (t : List JobParts) (after k : ℕ) → running_from after t ≡ None → RunsAt t k → k < after
before_it t after k e r = elim (cases_lt k after) [
  | inl h ↦ h
  | inr h ↦ absurd (from_none t after e k r h)
]

next_round : (t : List JobParts) (after i : ℕ) → running_from after t ≡ None → running_from 0 t ≡ Some i → IsNext t after i
next_round t after i none e =
    let f = from_found t 0 i e in
    record {
      runs_there = f.runs_there;
      is = due_at t after i f.runs_there.job (ap (λ (o : Option ℕ). option_or o (running_from 0 t)) none ∙ e) f.runs_there.there;
      first = λ k r here low. f.first k r (omega arith);
      of_all = λ k r past. (f.first k r (omega arith), before_it t after k none r);
    }

pub record NoneRuns (t : List JobParts) (after : ℕ) : Type 0 where
  pub is : due t after ≡ None
  pub none : (k : ℕ) → ¬ RunsAt t k

none_runs : (t : List JobParts) (after : ℕ) → running_from after t ≡ None → running_from 0 t ≡ None → NoneRuns t after
none_runs t after none e = record {
  is = ap (option_and_then (flight_at t)) (ap (λ (o : Option ℕ). option_or o (running_from 0 t)) none ∙ e);
  none = λ k r. from_none t 0 e k r (omega arith);
}

by_places : (t : List JobParts) (after : ℕ) (a b : Option ℕ) → running_from after t ≡ a → running_from 0 t ≡ b → ((i : ℕ) × IsNext t after i) ⊎ NoneRuns t after
by_places t after (Some i) b e f = inl (i, next_there t after i e)
by_places t after None (Some i) e f = inl (i, next_round t after i e f)
by_places t after None None e f = inr (none_runs t after e f)

pub what_is_due : (t : List JobParts) (after : ℕ) → ((i : ℕ) × IsNext t after i) ⊎ NoneRuns t after
what_is_due t after = by_places t after (running_from after t) (running_from 0 t) refl refl

-- a flight that is due is that of the next running job
pub record IsNextFlight (t : List JobParts) (after : ℕ) (f : FlightParts) : Type 0 where
  pub place : ℕ
  pub next : IsNext t after place
  pub copied : flight_of place next.runs_there.job ≡ f

pub flight_due : (t : List JobParts) (after : ℕ) (f : FlightParts) → due t after ≡ Some f → IsNextFlight t after f
flight_due t after f e = elim (what_is_due t after) [
  | inl h ↦ record { place = h.0; next = h.1; copied = let both = sym h.1.is ∙ e in cc }
  | inr h ↦ let both = sym h.is ∙ e in cc
]

-- ---- what is due is awaited

-- the job at a place is found by its name, where no two jobs have one name
none_before : (x : JobParts) (xs : List JobParts) (k : ℕ) (j : JobParts) → slice_get xs k ≡ Some j
    → AllByRecursion (λ y. bytes_eq x.name y ≡ false) (job_names xs) → bytes_eq x.name j.name ≡ false
none_before x [] k j at apart = cc
none_before x (y ∷ ys) zero j at apart = let same : y ≡ j = cc in sym (ap (λ (z : JobParts). bytes_eq x.name z.name) same) ∙ apart.0
none_before x (y ∷ ys) (suc k) j at apart = none_before x ys k j at apart.1

itself : (j : JobParts) → is_named j.name j ≡ true
itself j = (bytes_decides j.name j.name).1 refl

apart_from : (a b : List ℕ) (c : Bool) → bytes_eq b a ≡ c → bytes_eq a b ≡ false → c ≡ false
apart_from a b false is apart = refl
apart_from a b true is apart =
    let same : b ≡ a = (bytes_decides b a).0 is in
    let both = sym ((bytes_decides a b).1 (sym same)) ∙ apart in cc

found_by_name : (t : List JobParts) (k : ℕ) (j : JobParts) → IsDistinct bytes_eq (job_names t) → slice_get t k ≡ Some j → job_named j.name t ≡ Some j
unfolding IsDistinct
found_by_name [] k j distinct at = cc
found_by_name (x ∷ xs) zero j distinct at =
    let same : x ≡ j = cc in
    let named : is_named j.name x ≡ true = ap (is_named j.name) same ∙ itself j in
    ap (λ (b : Bool). cond b (Some x) (job_named j.name xs)) named ∙ ap (λ (z : JobParts). Some z) same
found_by_name (x ∷ xs) (suc k) j distinct at =
    let other : is_named j.name x ≡ false = apart_from x.name j.name (bytes_eq j.name x.name) refl (none_before x xs k j at distinct.0) in
    ap (λ (b : Bool). cond b (Some x) (job_named j.name xs)) other ∙ found_by_name xs k j distinct.1 at

awaited_flight : (t : List JobParts) (k : ℕ) → IsTable t → (r : RunsAt t k) → Awaits t r.job.name r.job.rules r.job.config r.job.rounds
awaited_flight t k is r = record {
  job = r.job;
  there = found_by_name t k r.job is.distinct r.there;
  running = r.running;
  agrees = record { same_rules = refl; same_config = refl; same_rounds = refl };
}

pub due_awaited : (t : List JobParts) (after : ℕ) (f : FlightParts) → IsTable t → due t after ≡ Some f → Awaits t f.name f.rules f.config f.rounds
due_awaited t after f is e =
    let d = flight_due t after f e in
    subst (λ (x : FlightParts). Awaits t x.name x.rules x.config x.rounds) d.copied (awaited_flight t d.place is d.next.runs_there)

-- of one name at most one round is awaited
pub awaited_once : (t : List JobParts) (name : List ℕ) (r q : Rules) (a b : Configuration) (m n : ℕ)
    → Awaits t name r a m → Awaits t name q b n → (r ≡ q) × (a ≡ b) × (m ≡ n)
awaited_once t name r q a b m n first second =
    let same = same_job first.job second.job (job_named name t) first.there second.there in
    let one = first.agrees in
    let two = second.agrees in (
      sym one.same_rules ∙ ap (λ (j : JobParts). j.rules) same ∙ two.same_rules,
      sym one.same_config ∙ ap (λ (j : JobParts). j.config) same ∙ two.same_config,
      sym one.same_rounds ∙ ap (λ (j : JobParts). j.rounds) same ∙ two.same_rounds,
    )

-- ---- what is awaited is the flight of a running job

-- a job that a name finds has that name and a place
record Found (t : List JobParts) (name : List ℕ) (j : JobParts) : Type 0 where
  place : ℕ
  there : slice_get t place ≡ Some j
  named : j.name ≡ name

found_or_later : (x : JobParts) (xs : List JobParts) (name : List ℕ) (j : JobParts) (b : Bool) → is_named name x ≡ b
    → (job_named name xs ≡ Some j → Found xs name j) → cond b (Some x) (job_named name xs) ≡ Some j → Found (x ∷ xs) name j
found_or_later x xs name j true is later e =
    let same : x ≡ j = cc in
    record {
      place = 0;
      there = e;
      named = sym (ap (λ (y : JobParts). y.name) same) ∙ sym ((bytes_decides name x.name).0 is);
    }
found_or_later x xs name j false other later e =
    let f = later e in record { place = suc f.place; there = f.there; named = f.named }

found : (t : List JobParts) (name : List ℕ) (j : JobParts) → job_named name t ≡ Some j → Found t name j
found [] name j e = cc
found (x ∷ xs) name j e = found_or_later x xs name j (is_named name x) refl (found xs name j) e

pub awaited_flies : (t : List JobParts) (name : List ℕ) (r : Rules) (a : Configuration) (n : ℕ) → Awaits t name r a n → HasFlight t name r a n
awaited_flies t name r a n w =
    let f = found t name w.job w.there in
    record {
      flight = flight_of f.place w.job;
      runs = record { runs = record { job = w.job; there = f.there; running = w.running }; copied = refl };
      same_name = f.named;
      same_rules = w.agrees.same_rules;
      same_config = w.agrees.same_config;
      same_rounds = w.agrees.same_rounds;
    }

pub flies_awaited : (t : List JobParts) (name : List ℕ) (r : Rules) (a : Configuration) (n : ℕ) → IsTable t → HasFlight t name r a n → Awaits t name r a n
flies_awaited t name r a n is h =
    let f = h.runs in
    let j = f.runs.job in
    let names : j.name ≡ name = sym (ap (λ (x : FlightParts). x.name) f.copied) ∙ h.same_name in
    record {
      job = j;
      there = sym (ap (λ (m : List ℕ). job_named m t) names) ∙ found_by_name t h.flight.place j is.distinct f.runs.there;
      running = f.runs.running;
      agrees = record {
        same_rules = sym (ap (λ (x : FlightParts). x.rules) f.copied) ∙ h.same_rules;
        same_config = sym (ap (λ (x : FlightParts). x.config) f.copied) ∙ h.same_config;
        same_rounds = sym (ap (λ (x : FlightParts). x.rounds) f.copied) ∙ h.same_rounds;
      };
    }
