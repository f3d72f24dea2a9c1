-- The rounds of a run.
use Rattle.std.proofs.Common.{◌≡◌, ℕ, zero, suc, ◌+◌, ◌<◌, ◌≤◌, List, [], ◌∷◌, Option, None, Some, length, take, map, true, refl, ap, ◌∙◌, arith}
use Rattle.std.specs.Prelude.{IfSome}
use Rattle.std.specs.Option.{option_map, option_map_or}
use Rattle.ic_flights.specs.Flight.{FlightParts}
use Rattle.ic_jobs.specs.Job.{JobParts}
use Rattle.ic_jobs.specs.Table.{IsTable}
use Rattle.ic_jobs.specs.State.{is_running}
use Rattle.ic_jobs.specs.declared.event.Event.{Event}
use Rattle.ic_jobs.specs.declared.event.Event.TheVariants.{Round}
use Rattle.ic_jobs.specs.declared.event.Entry.{Entry}
use Rattle.ic_jobs.specs.Events.{Outcome, apply, after_round, where_running}
use Rattle.ic_jobs.specs.History.{table_after, replay, IsLegal}
use Rattle.ic_jobs.specs.Landing.{due, Awaits}
use Rattle.ic_jobs.specs.Turns.{RunsAt}
use Rattle.ic_lines.specs.Turns.{after_events, round_and, turns}

few_of : (k : ℕ) (t : List JobParts) (o : Option FlightParts) → ((place : ℕ) (u : List JobParts) → length (turns k place u) ≤ k)
    → length (option_map_or (round_and (turns k) t) o []) ≤ suc k
few_of k t None few = omega arith
few_of k t (Some f) few = let h = few (f.place + 1) (table_after t (Round f.name)) in omega (arith, h)

pub turns_few : (k place : ℕ) (t : List JobParts) → length (turns k place t) ≤ k
turns_few zero place t = omega arith
turns_few (suc k) place t = few_of k t (due t place) (λ p u. turns_few k p u)

-- nothing is due where no job runs
abbrev pub DueLaw : Type 0
DueLaw = (t : List JobParts) (place : ℕ) → due t place ≡ None → (i : ℕ) → ¬ RunsAt t i

abbrev Idle : List JobParts → Type 0
Idle t = (i : ℕ) → ¬ RunsAt t i

fewer_of : (k : ℕ) (t : List JobParts) (o : Option FlightParts) → (o ≡ None → Idle t)
    → ((place : ℕ) (u : List JobParts) → length (turns k place u) < k → Idle (after_events u (turns k place u)))
    → length (option_map_or (round_and (turns k) t) o []) < suc k → Idle (after_events t (option_map_or (round_and (turns k) t) o []))
fewer_of k t None law more few = law refl
fewer_of k t (Some f) law more few = more (f.place + 1) (table_after t (Round f.name)) (omega (arith, few))

pub turns_fewer : DueLaw → (k place : ℕ) (t : List JobParts) → length (turns k place t) < k → Idle (after_events t (turns k place t))
turns_fewer law zero place t few = absurd (omega (arith, few))
turns_fewer law (suc k) place t few = fewer_of k t (due t place) (law t place) (λ p u. turns_fewer law k p u) few

pub turns_first : (k place : ℕ) (t : List JobParts) (f : FlightParts) → due t place ≡ Some f
    → turns (suc k) place t ≡ Round f.name ∷ turns k (f.place + 1) (table_after t (Round f.name))
turns_first k place t f e = ap (λ o. option_map_or (round_and (turns k) t) o []) e

pub turns_none : (k place : ℕ) (t : List JobParts) → due t place ≡ None → turns k place t ≡ []
turns_none zero place t e = refl
turns_none (suc k) place t e = ap (λ o. option_map_or (round_and (turns k) t) o []) e

front_of : (k n : ℕ) (t : List JobParts) (o : Option FlightParts) → ((place : ℕ) (u : List JobParts) → take n (turns k place u) ≡ turns n place u)
    → take (suc n) (option_map_or (round_and (turns k) t) o []) ≡ option_map_or (round_and (turns n) t) o []
front_of k n t None more = refl
front_of k n t (Some f) more = ap (λ es. Round f.name ∷ es) (more (f.place + 1) (table_after t (Round f.name)))

pub turns_front : (k n place : ℕ) (t : List JobParts) → n ≤ k → take n (turns k place t) ≡ turns n place t
turns_front k zero place t less = refl
turns_front zero (suc n) place t less = absurd (omega (arith, less))
turns_front (suc k) (suc n) place t less = front_of k n t (due t place) (λ p u. turns_front k n p u (omega (arith, less)))

-- ---- the events of a run, each with its reply, are a history

abbrev pub AwaitedLaw : Type 0
AwaitedLaw = (t : List JobParts) (place : ℕ) (f : FlightParts) → IsTable t → due t place ≡ Some f → Awaits t f.name f.rules f.config f.rounds

abbrev pub TableLaw : Type 0
TableLaw = (t : List JobParts) (name : List ℕ) → IsTable t → IfSome (apply t (Round name)) (λ o. IsTable o.table)

-- a legal history with these events, which leaves what they leave
pub record IsHistory (t : List JobParts) (es : List Event) : Type 0 where
  pub history : List Entry
  pub legal : IsLegal t history
  pub events : map (λ (e : Entry). e.event) history ≡ es
  pub leaves : replay t history ≡ after_events t es

round_of_job : (t : List JobParts) (f : FlightParts) → Awaits t f.name f.rules f.config f.rounds
    → (o : Outcome) × (apply t (Round f.name) ≡ Some o)
round_of_job t f a =
    let found : apply t (Round f.name) ≡ where_running (after_round t f.name) (Some a.job) = ap (where_running (after_round t f.name)) a.there in
    let runs : is_running a.job.state ≡ true = ap is_running a.running in
    let defined : where_running (after_round t f.name) (Some a.job) ≡ Some (after_round t f.name a.job) = rw runs refl in
    (after_round t f.name a.job, found ∙ defined)

table_left : (t : List JobParts) (e : Event) (o : Outcome) → apply t e ≡ Some o → table_after t e ≡ o.table
table_left t e o is = ap (λ p. option_map_or (λ (q : Outcome). q.table) p t) is

one_more : (t : List JobParts) (e : Event) (o : Outcome) (es : List Event) → apply t e ≡ Some o → IsHistory (table_after t e) es → IsHistory t (e ∷ es)
one_more t e o es is h = record {
  history = record { who = 0; event = e; reply = o.reply } ∷ h.history;
  legal = (ap (option_map (λ (q : Outcome). q.reply)) is, h.legal);
  events = ap (λ xs. e ∷ xs) h.events;
  leaves = h.leaves;
}

legal_of : AwaitedLaw → TableLaw → (k place : ℕ) (t : List JobParts) (o : Option FlightParts) → due t place ≡ o → IsTable t
    → ((p : ℕ) (u : List JobParts) → IsTable u → IsHistory u (turns k p u)) → IsHistory t (option_map_or (round_and (turns k) t) o [])
legal_of awaited tables k place t None is sound more = record { history = []; legal = tt; events = refl; leaves = refl }
legal_of awaited tables k place t (Some f) is sound more =
    let r = round_of_job t f (awaited t place f sound is) in
    let after : IsTable r.0.table = rw r.1 at (tables t f.name sound) in
    let next : IsTable (table_after t (Round f.name)) = rw (table_left t (Round f.name) r.0 r.1) after in
    one_more t (Round f.name) r.0 _ r.1 (more (f.place + 1) (table_after t (Round f.name)) next)

pub turns_legal : AwaitedLaw → TableLaw → (k place : ℕ) (t : List JobParts) → IsTable t → IsHistory t (turns k place t)
turns_legal awaited tables zero place t sound = record { history = []; legal = tt; events = refl; leaves = refl }
turns_legal awaited tables (suc k) place t sound =
    legal_of awaited tables k place t (due t place) refl sound (λ p u s. turns_legal awaited tables k p u s)
