-- The rounds of a run, one after the other.
use Rattle.std.proofs.Common.{◌≡◌, ◌⊎◌, inl, inr, ℕ, zero, suc, ◌+◌, ◌-◌, ◌<◌, List, [], ◌∷◌, ◌++◌, None, Some, length, refl, sym, ap, subst, ◌∙◌, arith, append-nil, append_assoc, length-append, Option, Result, Ok, Err}
use Rattle.std.specs.Prelude.{OnErr}
use Rattle.std.specs.Option.{option_map_or}
use Rattle.std.proofs.lemmas.List.Sums.{fold-append}
use Rattle.ic_flights.specs.Flight.{FlightParts}
use Rattle.ic_jobs.specs.Job.{JobParts}
use Rattle.ic_jobs.specs.declared.event.Event.{Event}
use Rattle.ic_jobs.specs.declared.event.Event.TheVariants.{Round}
use Rattle.ic_jobs.specs.declared.event.Entry.{Entry}
use Rattle.ic_jobs.specs.History.{table_after}
use Rattle.ic_book.specs.Left.{table_kept}
use Rattle.ic_jobs.specs.Landing.{due}
use Rattle.ic_lines.specs.Turns.{after_events, round_and, turns}
use Rattle.ic_serving.specs.Parts.{IsPart, IsKeptWithin}

-- so many rounds of a run were made, and the next is due from this place on
pub record InRun (t kept : List JobParts) (count made place : ℕ) (u w : List JobParts) : Type 0 where
  pub events : List Event
  pub parted : turns count 0 t ≡ events ++ turns (count - made) place u
  pub counted : length events ≡ made
  pub leaves : u ≡ after_events t events
  pub keeps : IsKeptWithin t kept events w

pub at_first : (t kept : List JobParts) (count : ℕ) → InRun t kept count 0 0 t kept
at_first t kept count = record {
  events = [];
  parted = (let same : count ≡ count - 0 = omega arith in ap (λ n. turns n 0 t) same);
  counted = refl;
  leaves = refl;
  keeps = inl refl;
}

part_longer : (t : List JobParts) (es more : List Event) (u : List JobParts) → IsPart t es u → IsPart t (es ++ more) u
part_longer t es more u p = record {
  front = p.front;
  rest = p.rest ++ more;
  parted = ap (λ xs. xs ++ more) p.parted ∙ append_assoc p.front p.rest more;
  leaves = p.leaves;
}

pub kept_longer : (t kept : List JobParts) (es more : List Event) (w : List JobParts) → IsKeptWithin t kept es w → IsKeptWithin t kept (es ++ more) w
kept_longer t kept es more w (inl same) = inl same
kept_longer t kept es more w (inr part) = inr (part_longer t es more w part)

-- the table after all of the front
pub part_front : (t : List JobParts) (es more : List Event) (u : List JobParts) → u ≡ after_events t es → IsPart t (es ++ more) u
part_front t es more u is = record { front = es; rest = more; parted = refl; leaves = is }

-- the table that was kept last stays, or is this one
pub kept_now : (t kept : List JobParts) (es more : List Event) (u w v : List JobParts) → u ≡ after_events t es → IsKeptWithin t kept es w
    → (v ≡ w) ⊎ (v ≡ u) → IsKeptWithin t kept (es ++ more) v
kept_now t kept es more u w v is within (inl same) = rw same (kept_longer t kept es more w within)
kept_now t kept es more u w v is within (inr same) = inr (part_front t es more v (same ∙ is))

turns_next : (k place : ℕ) (u : List JobParts) (f : FlightParts) → due u place ≡ Some f
    → turns (suc k) place u ≡ Round f.name ∷ turns k (f.place + 1) (table_after u (Round f.name))
turns_next k place u f e = ap (λ o. option_map_or (round_and (turns k) u) o []) e

pub turns_over : (k place : ℕ) (u : List JobParts) → due u place ≡ None → turns k place u ≡ []
turns_over zero place u e = refl
turns_over (suc k) place u e = ap (λ o. option_map_or (round_and (turns k) u) o []) e

-- where a round is due, it is the next of those that are left
pub turns_step : (count made place : ℕ) (u v : List JobParts) (f : FlightParts) → made < count → due u place ≡ Some f → v ≡ table_after u (Round f.name)
    → turns (count - made) place u ≡ Round f.name ∷ turns (count - (made + 1)) (f.place + 1) v
turns_step count made place u v f less is moved =
    let left : count - made ≡ suc (count - (made + 1)) = omega (arith, less) in
    ap (λ n. turns n place u) left ∙ turns_next (count - (made + 1)) place u f is
    ∙ ap (λ y. Round f.name ∷ turns (count - (made + 1)) (f.place + 1) y) (sym moved)

pub one_more : (t kept : List JobParts) (count made place : ℕ) (u w v x : List JobParts) (f : FlightParts) → InRun t kept count made place u w
    → made < count → due u place ≡ Some f → v ≡ table_after u (Round f.name) → (x ≡ w) ⊎ (x ≡ u)
    → InRun t kept count (made + 1) (f.place + 1) v x
one_more t kept count made place u w v x f r less is moved keeps =
    let next = turns_step count made place u v f less is moved in
    let n = r.counted in
    record {
      events = r.events ++ Round f.name ∷ [];
      parted = r.parted ∙ ap (λ xs. r.events ++ xs) next ∙ sym (append_assoc r.events (Round f.name ∷ []) (turns (count - (made + 1)) (f.place + 1) v));
      counted = omega (arith, n, length-append r.events (Round f.name ∷ []));
      leaves = moved ∙ ap (λ y. table_after y (Round f.name)) r.leaves ∙ sym (fold-append table_after t r.events (Round f.name ∷ []));
      keeps = kept_now t kept r.events (Round f.name ∷ []) u w x r.leaves r.keeps keeps;
    }

-- what is kept is the table now
pub keep_here : (t kept : List JobParts) (count made place : ℕ) (u w v x : List JobParts) → InRun t kept count made place u w → v ≡ u → x ≡ u
    → InRun t kept count made place v x
keep_here t kept count made place u w v x r same now = record {
  events = r.events;
  parted = r.parted ∙ ap (λ y. r.events ++ turns (count - made) place y) (sym same);
  counted = r.counted;
  leaves = same ∙ r.leaves;
  keeps = inr (record { front = r.events; rest = []; parted = sym (append-nil r.events); leaves = now ∙ r.leaves });
}

pub keep_or_not : (t kept : List JobParts) (count made place : ℕ) (u w v x : List JobParts) → InRun t kept count made place u w → v ≡ u → (x ≡ w) ⊎ (x ≡ u)
    → InRun t kept count made place v x
keep_or_not t kept count made place u w v x r same (inl stays) = rw (same, stays) r
keep_or_not t kept count made place u w v x r same (inr now) = keep_here t kept count made place u w v x r same now

-- the run is over
pub record IsRun (t kept : List JobParts) (count made : ℕ) (u w : List JobParts) : Type 0 where
  pub counted : made ≡ length (turns count 0 t)
  pub leaves : u ≡ after_events t (turns count 0 t)
  pub keeps : IsKeptWithin t kept (turns count 0 t) w

whole : (t kept : List JobParts) (count made place : ℕ) (u w v x : List JobParts) (r : InRun t kept count made place u w)
    → turns (count - made) place u ≡ [] → v ≡ u → x ≡ w → IsRun t kept count made v x
whole t kept count made place u w v x r none same last =
    let all : turns count 0 t ≡ r.events = r.parted ∙ ap (λ xs. r.events ++ xs) none ∙ append-nil r.events in
    record {
      counted = sym r.counted ∙ ap length (sym all);
      leaves = same ∙ r.leaves ∙ ap (after_events t) (sym all);
      keeps = rw (all, last) r.keeps;
    }

pub run_idle : (t kept : List JobParts) (count made place : ℕ) (u w v x : List JobParts) → InRun t kept count made place u w → due u place ≡ None
    → v ≡ u → x ≡ w → IsRun t kept count made v x
run_idle t kept count made place u w v x r none same last = whole t kept count made place u w v x r (turns_over (count - made) place u none) same last

pub run_full : (t kept : List JobParts) (count made place : ℕ) (u w : List JobParts) → InRun t kept count made place u w → made ≡ count
    → IsRun t kept count count u w
run_full t kept count made place u w r all =
    let none : count - made ≡ 0 = omega (arith, all) in
    subst (λ (n : ℕ). IsRun t kept count n u w) all (whole t kept count made place u w u w r (ap (λ n. turns n place u) none) refl refl)

-- where no round is to be made in all, none is due
no_rest : (front rest : List Event) → front ++ rest ≡ [] → rest ≡ []
no_rest [] rest none = none
no_rest (e ∷ front) rest none = let zero = ap length none in absurd (omega (arith, zero))

not_due : (k place : ℕ) (u : List JobParts) (o : Option FlightParts) → due u place ≡ o → turns (suc k) place u ≡ [] → due u place ≡ None
not_due k place u None is none = is
not_due k place u (Some f) is none = let zero = ap length (sym (turns_next k place u f is) ∙ none) in absurd (omega (arith, zero))

pub run_nothing : (t kept : List JobParts) (count made place : ℕ) (u w : List JobParts) → InRun t kept count made place u w → made < count
    → turns count 0 t ≡ [] → due u place ≡ None
run_nothing t kept count made place u w r less none =
    let left : count - made ≡ suc (count - (made + 1)) = omega (arith, less) in
    let over = no_rest r.events (turns (count - made) place u) (sym r.parted ∙ none) in
    not_due (count - (made + 1)) place u (due u place) refl (ap (λ n. turns n place u) (sym left) ∙ over)

-- a fault came
pub run_begun : (t kept : List JobParts) (count made place : ℕ) (u w v x : List JobParts) → InRun t kept count made place u w → v ≡ u
    → (x ≡ w) ⊎ (x ≡ u) → IsPart t (turns count 0 t) v × IsKeptWithin t kept (turns count 0 t) x
run_begun t kept count made place u w v x r same keeps =
    rw r.parted (
      part_front t r.events (turns (count - made) place u) v (same ∙ r.leaves),
      kept_now t kept r.events (turns (count - made) place u) u w x r.leaves r.keeps keeps,
    )

pub run_ended : (t kept : List JobParts) (es : List Event) (u w v x : List JobParts) → u ≡ after_events t es → IsKeptWithin t kept es w → v ≡ u → x ≡ w
    → IsPart t es v × IsKeptWithin t kept es x
run_ended t kept es u w v x is within same last =
    (record { front = es; rest = []; parted = sym (append-nil es); leaves = same ∙ is }, rw last within)

pub on_err : {T E : Type 0} (r : Result T E) (P : Type 0) → P → OnErr r P
on_err (Ok v) P p = tt
on_err (Err e) P p = p

pub kept_same : (s t : List JobParts) (h l : List Entry) (k n : ℕ) → t ≡ s → l ≡ h → n ≡ k → table_kept t l n ≡ table_kept s h k
kept_same s t h l k n a b e = cc
