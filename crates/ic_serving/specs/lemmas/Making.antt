-- Tables before rounds, and what the round of a job that is due is answered.
use Rattle.std.proofs.Common.{◌≡◌, ◌⊎◌, inl, inr, ⊎_elim, ℕ, ◌≤◌, List, [], ◌∷◌, ◌++◌, Bool, true, false, cond, not, ◌&&◌, ◌||◌, ◌==◌, nat_lt, Option, None, Some, refl, sym, ap, subst, ◌∙◌, arith, append_assoc}
use Rattle.std.specs.List.{AllByRecursion}
use Rattle.std.specs.Option.{option_map}
use Rattle.std.proofs.lemmas.Bool.{eqb-false, eqb-true, le-ltb, lt-ltb}
use Rattle.ic_round.specs.Rounds.{fits}
use Rattle.ic_flights.specs.Flight.{FlightParts, is_blocked}
use Rattle.ic_flights.specs.declared.limits.TheConstants.{MAX_ROUNDS}
use Rattle.ic_jobs.specs.declared.event.Event.{Event}
use Rattle.ic_jobs.specs.declared.event.Event.TheVariants.{Round}
use Rattle.ic_jobs.specs.declared.reply.Reply.TheVariants.{Moved, Halted}
use Rattle.ic_jobs.specs.declared.state.State.{State}
use Rattle.ic_jobs.specs.declared.state.State.TheVariants as state
use Rattle.ic_jobs.specs.State.{is_running}
use Rattle.ic_jobs.specs.Job.{JobParts, IsJob, can_move, moved, in_state}
use Rattle.ic_jobs.specs.Table.{IsTable, is_named, job_named, with_changed}
use Rattle.ic_jobs.specs.Events.{Outcome, outcome, after_round, where_running}
use Rattle.ic_jobs.specs.History.{reply_to, table_after}
use Rattle.ic_jobs.specs.Landing.{Agrees, Awaits}
use Rattle.ic_lines.specs.Turns.{after_events}
use Rattle.ic_serving.specs.Parts.{IsBeforeRound, IsPart}

-- ---- among events

none_parted : (before : List Event) (e : Event) (after : List Event) → [] ≡ before ++ e ∷ after → ⊥
none_parted [] e after is = cc
none_parted (x ∷ before) e after is = cc

pub none_before : (t u : List JobParts) → IsBeforeRound t [] u → ⊥
none_before t u r = none_parted r.before r.event r.after r.parted

pub before_part : (t u : List JobParts) (es : List Event) → IsBeforeRound t es u → IsPart t es u
before_part t u es r = record { front = r.before; rest = r.event ∷ r.after; parted = r.parted; leaves = r.leaves }

pub before_first : (t u : List JobParts) (e : Event) (es : List Event) → u ≡ t → reply_to t e ≡ Some Moved → IsBeforeRound t (e ∷ es) u
before_first t u e es same moves = record {
  before = [];
  event = e;
  after = es;
  parted = refl;
  leaves = same;
  made = subst (λ (x : List JobParts). reply_to x e ≡ Some Moved) (sym same) moves;
}

pub before_later : (t u : List JobParts) (e : Event) (es : List Event) → IsBeforeRound (table_after t e) es u → IsBeforeRound t (e ∷ es) u
before_later t u e es r =
    record { before = e ∷ r.before; event = r.event; after = r.after; parted = ap (λ xs. e ∷ xs) r.parted; leaves = r.leaves; made = r.made }

parts_at : (t u : List JobParts) (e : Event) (es before : List Event) (made : Event) (after : List Event) → e ∷ es ≡ before ++ made ∷ after
    → u ≡ after_events t before → reply_to u made ≡ Some Moved → ((u ≡ t) × (reply_to t e ≡ Some Moved)) ⊎ IsBeforeRound (table_after t e) es u
parts_at t u e es [] made after is left moves =
    let same : made ≡ e = cc in
    inl (left, subst (λ (x : Event). reply_to t x ≡ Some Moved) same (subst (λ (x : List JobParts). reply_to x made ≡ Some Moved) left moves))
parts_at t u e es (x ∷ before) made after is left moves =
    let same : x ≡ e = cc in
    let rest : es ≡ before ++ made ∷ after = cc in
    inr (record {
      before = before;
      event = made;
      after = after;
      parted = rest;
      leaves = left ∙ ap (λ (y : Event). after_events (table_after t y) before) same;
      made = moves;
    })

-- it is before the first, or among the others
pub before_parts : (t u : List JobParts) (e : Event) (es : List Event) → IsBeforeRound t (e ∷ es) u
    → ((u ≡ t) × (reply_to t e ≡ Some Moved)) ⊎ IsBeforeRound (table_after t e) es u
before_parts t u e es r = parts_at t u e es r.before r.event r.after r.parted r.leaves r.made

pub before_longer : (t u : List JobParts) (es more : List Event) → IsBeforeRound t es u → IsBeforeRound t (es ++ more) u
before_longer t u es more r = record {
  before = r.before;
  event = r.event;
  after = r.after ++ more;
  parted = ap (λ xs. xs ++ more) r.parted ∙ append_assoc r.before (r.event ∷ r.after) more;
  leaves = r.leaves;
  made = r.made;
}

pub before_after : (t u : List JobParts) (es more : List Event) → IsBeforeRound (after_events t es) more u → IsBeforeRound t (es ++ more) u
before_after t u [] more r = r
before_after t u (e ∷ es) more r = before_later t u e (es ++ more) (before_after (table_after t e) u es more r)

pub before_either : (t u : List JobParts) (es more : List Event) → IsBeforeRound t (es ++ more) u → IsBeforeRound t es u ⊎ IsBeforeRound (after_events t es) more u
before_either t u [] more r = inr r
before_either t u (e ∷ es) more r = ⊎_elim
    (λ (now : (u ≡ t) × (reply_to t e ≡ Some Moved)). inl (before_first t u e es now.0 now.1))
    (λ (later : IsBeforeRound (table_after t e) (es ++ more) u). ⊎_elim
    (λ (here : IsBeforeRound (table_after t e) es u). inl (before_later t u e es here))
    (λ (rest : IsBeforeRound (after_events t (e ∷ es)) more u). inr rest)
    (before_either (table_after t e) u es more later))
    (before_parts t u e (es ++ more) r)

-- ---- of a job that is due

named_at : (b : Bool) (k j : JobParts) (rest : Option JobParts) → IsJob k → (rest ≡ Some j → IsJob j) → cond b (Some k) rest ≡ Some j → IsJob j
named_at true k j rest first later is = let same : k ≡ j = cc in subst (λ (x : JobParts). IsJob x) same first
named_at false k j rest first later is = later is

named_job : (name : List ℕ) (t : List JobParts) (j : JobParts) → AllByRecursion IsJob t → job_named name t ≡ Some j → IsJob j
named_job name [] j each is = cc
named_job name (k ∷ ks) j each is = named_at (is_named name k) k j (job_named name ks) each.0 (named_job name ks j each.1) is

free : (b : Bool) (n : ℕ) → (not b || n == MAX_ROUNDS) ≡ false → n ≤ MAX_ROUNDS → (b && nat_lt n MAX_ROUNDS) ≡ true
free false n is few = cc
free true n is few = let other = eqb-false n MAX_ROUNDS is in lt-ltb n MAX_ROUNDS (omega (arith, few, other))

never : (b : Bool) (n : ℕ) → (not b || n == MAX_ROUNDS) ≡ true → (b && nat_lt n MAX_ROUNDS) ≡ false
never false n is = refl
never true n is = let same = eqb-true n MAX_ROUNDS is in le-ltb n MAX_ROUNDS (omega (arith, same))

moves_by : (f : FlightParts) (j : JobParts) → Agrees j f.rules f.config f.rounds → can_move j ≡ (fits f.rules.rules f.config && nat_lt f.rounds MAX_ROUNDS)
moves_by f j same =
    let rules = same.same_rules in let config = same.same_config in let rounds = same.same_rounds in
    λ i. fits (rules i).rules (config i) && nat_lt (rounds i) MAX_ROUNDS

answered_by : (t : List JobParts) (f : FlightParts) (a : Awaits t f.name f.rules f.config f.rounds) (b : Bool) → (fits f.rules.rules f.config && nat_lt f.rounds MAX_ROUNDS) ≡ b
    → reply_to t (Round f.name) ≡ Some ((cond b (outcome (with_changed f.name moved t) Moved) (outcome (with_changed f.name (in_state state.Halted) t) Halted)).reply)
answered_by t f a b can =
    ap (λ (o : Option JobParts). option_map (λ (x : Outcome). x.reply) (where_running (after_round t f.name) o)) a.there
    ∙ ap (λ (s : State). option_map (λ (x : Outcome). x.reply) (cond (is_running s) (Some (after_round t f.name a.job)) None)) a.running
    ∙ ap (λ (m : Bool). Some ((cond m (outcome (with_changed f.name moved t) Moved) (outcome (with_changed f.name (in_state state.Halted) t) Halted)).reply))
    (moves_by f a.job a.agrees ∙ can)

-- its round is made where it isn't blocked
pub due_moves : (t : List JobParts) (f : FlightParts) → IsTable t → Awaits t f.name f.rules f.config f.rounds → is_blocked f ≡ false → reply_to t (Round f.name) ≡ Some Moved
due_moves t f sound a unblocked =
    let job = named_job f.name t a.job sound.each a.there in
    let few : f.rounds ≤ MAX_ROUNDS = subst (λ (n : ℕ). n ≤ MAX_ROUNDS) a.agrees.same_rounds job.counted in
    answered_by t f a true (free (fits f.rules.rules f.config) f.rounds unblocked few)

-- and is a halt where it is
pub due_halts : (t : List JobParts) (f : FlightParts) → Awaits t f.name f.rules f.config f.rounds → is_blocked f ≡ true → reply_to t (Round f.name) ≡ Some Halted
due_halts t f a blocked = answered_by t f a false (never (fits f.rules.rules f.config) f.rounds blocked)

moves_free : (t : List JobParts) (f : FlightParts) → Awaits t f.name f.rules f.config f.rounds → (b : Bool) → is_blocked f ≡ b → reply_to t (Round f.name) ≡ Some Moved
    → is_blocked f ≡ false
moves_free t f a false is moves = is
moves_free t f a true is moves = let both : Some Halted ≡ Some Moved = sym (due_halts t f a is) ∙ moves in cc

-- so it isn't blocked where its round is made
pub due_free : (t : List JobParts) (f : FlightParts) → Awaits t f.name f.rules f.config f.rounds → reply_to t (Round f.name) ≡ Some Moved → is_blocked f ≡ false
due_free t f a moves = moves_free t f a (is_blocked f) refl moves
