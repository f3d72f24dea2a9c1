-- How many calls to the disk are made.
use Rattle.std.proofs.Common.{◌≡◌, ◌≢◌, ◌⊎◌, inl, inr, ℕ, zero, suc, ◌+◌, ◌-◌, ◌*◌, ◌<◌, ◌≤◌, ◌/◌, ◌%◌, ◌^◌, min, List, [], ◌∷◌, Bool, true, false, ◌&&◌, Some, length, refl, sym, ap, ap₂, subst, ◌∙◌, arith, true≢false}
use Rattle.std.specs.Prelude.{IsSome, Option, nat_lt, if◌then◌else◌}
use Rattle.std.specs.List.{AllByRecursion}
use Rattle.std.proofs.lemmas.Nat.{div-add-mod', div_below, le-div}
use Rattle.std.proofs.Math.Nat.{mod-eq_of_lt}
use Rattle.ic_disk.specs.declared.disk.Disk.{Ghosts}
use Rattle.ic_slots.specs.declared.keeper.Keeper.{Keeper}
use Rattle.ic_slots.specs.Keeper as keeper_parts
use Rattle.ic_jobs.specs.declared.event.Event.{Event}
use Rattle.ic_jobs.specs.declared.state.State.{State}
use Rattle.ic_jobs.specs.declared.state.State.TheVariants.{Running, Paused, Done, Halted, Spent}
use Rattle.ic_jobs.specs.State.{is_running, state_eq}
use Rattle.ic_jobs.specs.Job.{JobParts, can_move, moved, in_state}
use Rattle.ic_jobs.specs.Table.{IsTable, is_named, job_named, with_changed}
use Rattle.ic_book.specs.declared.book.Book.{Book}
use Rattle.ic_book.specs.declared.limits.TheConstants.{SYSTEM_WEIGHT}
use Rattle.ic_book.specs.Weight.{weight, weight_of}
use Rattle.ic_serving.specs.declared.limits.TheConstants.{PAGE_WEIGHT}
use Rattle.ic_book.specs.lemmas.Weights.{weigh_first, weigh_on}
use Rattle.ic_book.specs.Book.{disk_of, keeper_of, log_of, table_of}
use Rattle.ic_serving.specs.Grown.{GoesOn, HasSpare, IsSamePage}
use Rattle.ic_batch.specs.declared.jobs.NewJob.{NewJob}
use Rattle.ic_batch.specs.Calls.{CallsFew, come_to, events_in, events_of}
use Rattle.ic_batch.specs.inner.Staying.{AreKept, HaveCome}
use Rattle.ic_batch.specs.Way.{after, after_event, all_of, goes_on, gone_on, AreWays, IsOnWay}
use Rattle.ic_batch.proofs.JobLemmas.{change, change_is, one_named, round_changes}
use Rattle.ic_batch.proofs.WayLemmas.{runs, stands_on}
use Rattle.ic_batch.proofs.DueLemmas.{running_is, IsMade}

-- ---- of one job

event_rounds : (j : JobParts) (b : Bool) → j.rounds ≤ (if b then moved j else in_state Halted j).rounds
event_rounds j true = omega arith
event_rounds j false = omega arith

gone_rounds : (j : JobParts) (b : Bool) → j.rounds ≤ (if b then after_event j else j).rounds
gone_rounds j true = event_rounds j (can_move j)
gone_rounds j false = omega arith

after_rounds : (most n : ℕ) (from : JobParts) → from.rounds ≤ (after most n from).rounds
after_rounds most zero from = omega arith
after_rounds most (suc n) from =
    let more = gone_rounds (after most n from) (goes_on most (after most n from)) in
    let so_far = after_rounds most n from in
    omega (arith, more, so_far)

way_rounds : (most : ℕ) (from j : JobParts) → IsOnWay most from j → from.rounds ≤ j.rounds
way_rounds most from j way = subst (λ (k : JobParts). from.rounds ≤ k.rounds) (sym way.1) (after_rounds most way.0 from)

-- where a job runs on its way, it did before
way_runs : (most : ℕ) (from j : JobParts) → IsOnWay most from j → is_running j.state ≡ true → is_running from.state ≡ true
way_runs most from j way now = by (is_running from.state) refl
  where
    by : (b : Bool) → is_running from.state ≡ b → is_running from.state ≡ true
    by true is = is
    by false is =
        let stays : goes_on most from ≡ false = ap (λ (b : Bool). b && nat_lt from.rounds most) is in
        let same : j ≡ from = way.1 ∙ stands_on most from stays way.0 in
        absurd (true≢false (sym now ∙ ap (λ (k : JobParts). is_running k.state) same ∙ is))

abbrev one_if : Bool → ℕ
one_if b = if b then 1 else 0

none_of : (b : Bool) → one_if (b && false) ≡ 0
none_of true = refl
none_of false = refl

not_halted : (q u : Bool) → state_eq (if q then Done else (if u then Spent else Running)) Halted ≡ false
not_halted true u = refl
not_halted false true = refl
not_halted false false = refl

round_more : (r f a b : ℕ) → f ≤ r → a ≡ 0 → b ≡ 0 → ((r + 1) - f) + b ≡ ((r - f) + a) + 1
round_more r f a b less none later = omega (arith, less, none, later)

halt_more : (d a b : ℕ) → a ≡ 0 → b ≡ 1 → d + b ≡ (d + a) + 1
halt_more d a b none one = omega (arith, none, one)

event_one : (from j : JobParts) → is_running from.state ≡ true → is_running j.state ≡ true → from.rounds ≤ j.rounds → (b : Bool)
    → events_of from (if b then moved j else in_state Halted j) ≡ events_of from j + 1
event_one from j before now less b = by b
  where
    none : one_if (is_running from.state && state_eq j.state Halted) ≡ 0
    none = ap (λ (s : State). one_if (is_running from.state && state_eq s Halted)) (running_is j.state now) ∙ none_of (is_running from.state)

    by : (b : Bool) → events_of from (if b then moved j else in_state Halted j) ≡ events_of from j + 1
    by true = round_more j.rounds from.rounds (one_if (is_running from.state && state_eq j.state Halted)) (one_if (is_running from.state && state_eq (moved j).state Halted)) less none
        (ap (λ (h : Bool). one_if (is_running from.state && h)) (not_halted _ _) ∙ none_of (is_running from.state))
    by false = halt_more (j.rounds - from.rounds) (one_if (is_running from.state && state_eq j.state Halted)) (one_if (is_running from.state && true)) none
        (ap (λ (h : Bool). one_if (h && true)) before)

-- one event more
way_one : (most : ℕ) (from j : JobParts) → goes_on most j ≡ true → IsOnWay most from j → events_of from (after_event j) ≡ events_of from j + 1
way_one most from j goes way =
    let now = runs most j goes in
    event_one from j (way_runs most from j way now) now (way_rounds most from j way) (can_move j)

none_so_far : (j : JobParts) → events_of j j ≡ 0
none_so_far j = sum j.rounds (one_if (is_running j.state && state_eq j.state Halted)) (not_both j.state)
  where
    not_both : (s : State) → one_if (is_running s && state_eq s Halted) ≡ 0
    not_both Running = refl
    not_both Paused = refl
    not_both Done = refl
    not_both Halted = refl
    not_both Spent = refl

    sum : (r a : ℕ) → a ≡ 0 → (r - r) + a ≡ 0
    sum r a none = omega (arith, none)

pub counted : (most n : ℕ) (from : JobParts) → ((m : ℕ) → m < n → goes_on most (after most m from) ≡ true) → events_of from (after most n from) ≡ n
counted most zero from goes = none_so_far from
counted most (suc n) from goes =
    let here : goes_on most (after most n from) ≡ true = goes n (omega arith) in
    let gone : gone_on most (after most n from) ≡ after_event (after most n from) = ap (λ (b : Bool). if b then after_event (after most n from) else after most n from) here in
    let so_far = counted most n from (λ m less. goes m (omega (arith, less))) in
    let one = way_one most from (after most n from) here (n, refl) in
    ap (events_of from) gone ∙ one ∙ ap (λ (k : ℕ). k + 1) so_far ∙ up n
  where
    up : (k : ℕ) → k + 1 ≡ suc k
    up k = omega arith

-- ---- of tables

module _ (most : ℕ) (name : List ℕ) (j : JobParts) (goes : goes_on most j ≡ true) where
  abbrev IsOne : List JobParts → Type 0
  IsOne t = AllByRecursion (λ y. is_named name y ≡ true → y ≡ j) t

  more : (from y : JobParts) → IsOnWay most from y → y ≡ j → events_of from y + 1 ≤ events_of from (change j y)
  more from y way same =
      let there = subst (IsOnWay most from) same way in
      let one : events_of from (change j j) ≡ events_of from j + 1 = ap (events_of from) (change_is j) ∙ way_one most from j goes there in
      subst (λ (k : JobParts). events_of from k + 1 ≤ events_of from (change j k)) (sym same) (let e = one in omega (arith, e))

  no_less : (from t : List JobParts) → AreWays most from t → IsOne t → events_in from t ≤ events_in from (with_changed name (change j) t)
  no_less [] [] ways one = omega arith
  no_less (x ∷ xs) (y ∷ ys) ways one = by (is_named name y) one.0 (no_less xs ys ways.1 one.1)
    where
      by : (b : Bool) → (b ≡ true → y ≡ j) → events_in xs ys ≤ events_in xs (with_changed name (change j) ys)
          → events_of x y + events_in xs ys ≤ events_of x (if b then change j y else y) + events_in xs (with_changed name (change j) ys)
      by true same rest = omega (arith, more x y ways.0 (same refl), rest)
      by false same rest = omega (arith, rest)
  no_less xs ys ways one = absurd ways

  events_changed : (from t : List JobParts) → AreWays most from t → IsOne t → IsSome (job_named name t) → events_in from t + 1 ≤ events_in from (with_changed name (change j) t)
  events_changed [] [] ways one there = cc
  events_changed (x ∷ xs) (y ∷ ys) ways one there = by (is_named name y) one.0 there (events_changed xs ys ways.1 one.1)
    where
      by : (b : Bool) → (b ≡ true → y ≡ j) → IsSome (if b then Some y else job_named name ys)
          → (IsSome (job_named name ys) → events_in xs ys + 1 ≤ events_in xs (with_changed name (change j) ys))
          → (events_of x y + events_in xs ys) + 1 ≤ events_of x (if b then change j y else y) + events_in xs (with_changed name (change j) ys)
      by true same there later = omega (arith, more x y ways.0 (same refl), no_less xs ys ways.1 one.1)
      by false same there later = omega (arith, later there)
  events_changed xs ys ways one there = absurd ways

-- a round makes one event more
pub one_event : (most : ℕ) (from t u : List JobParts) → IsTable t → IsMade most t u → AreWays most from t → events_in from t + 1 ≤ events_in from u
one_event most from t u is_table made ways =
    let same : u ≡ with_changed made.name (change made.job) t = made.table ∙ round_changes t made.name made.job made.there (runs most made.job made.goes) in
    subst (λ (x : List JobParts). events_in from t + 1 ≤ events_in from x) (sym same)
    (events_changed most made.name made.job made.goes from t ways (one_named made.name t made.job is_table.distinct made.there) (subst (λ (o : Option JobParts). IsSome o) (sym made.there) refl))

pub ways_long : (most : ℕ) (from t : List JobParts) → AreWays most from t → length t ≡ length from
ways_long most [] [] ways = refl
ways_long most (x ∷ xs) (y ∷ ys) ways = ap (λ (n : ℕ). suc n) (ways_long most xs ys ways.1)
ways_long most xs ys ways = absurd ways

-- ---- numbers

at_least : (a b : ℕ) → a ≤ a + b
at_least a b = omega arith

front_below : (a b c : ℕ) → a + b ≡ c → a ≤ c
front_below a b c is = omega (arith, is)

le_then : (a b c : ℕ) → a ≤ b → b ≤ c → a ≤ c
le_then a b c p q = omega (arith, p, q)

below_whole : (a b n : ℕ) → a + b ≡ n + 1 → b ≡ 0 → n < a
below_whole a b n is none = omega (arith, is, none)

-- more events have no fewer parts
more_parts : (m n every : ℕ) → 0 < every → m ≤ n → m / every ≤ n / every
more_parts m n every some few = le-div (m / every) n every some
    (le_then (m / every * every) m n (front_below (m / every * every) (m % every) m (div-add-mod' m every)) few)

-- and one more, where a part is full
next_part : (n every : ℕ) → 0 < every → (n + 1) % every ≡ 0 → n / every < (n + 1) / every
next_part n every some full = div_below n every ((n + 1) / every) some
    (below_whole ((n + 1) / every * every) ((n + 1) % every) n (div-add-mod' (n + 1) every) full)

kept_once : (a b old clock mid new : ℕ) → a < b → clock ≤ old + 6 * a → mid ≡ clock → new ≤ mid + 6 → new ≤ old + 6 * b
kept_once a b old clock mid new more so_far same six = omega (arith, more, so_far, same, six)

not_kept : (a b old clock mid new : ℕ) → a ≤ b → clock ≤ old + 6 * a → mid ≡ clock → new ≡ mid → new ≤ old + 6 * b
not_kept a b old clock mid new more so_far same stays = omega (arith, more, so_far, same, stays)

none_or_not : (n : ℕ) → (n ≡ 0) ⊎ (n ≢ 0)
none_or_not zero = inl refl
none_or_not (suc n) = inr (λ same. cc)

-- a round more, and a keep where it is due
calls_step : (made every old clock mid new : ℕ) → 0 < every → clock ≤ old + 6 * (made / every) → mid ≡ clock → new ≤ mid + 6
    → ((made + 1) % every ≢ 0 → new ≡ mid) → new ≤ old + 6 * ((made + 1) / every)
calls_step made every old clock mid new some so_far same six stays = elim (none_or_not ((made + 1) % every)) [
  | inl full ↦ kept_once (made / every) ((made + 1) / every) old clock mid new (next_part made every some full) so_far same six
  | inr other ↦ not_kept (made / every) ((made + 1) / every) old clock mid new (more_parts made (made + 1) every some (at_least made 1)) so_far same (stays other)
]

-- a count that stays so small doesn't begin anew
no_wrap : (log made count : ℕ) → made ≤ count → log + (count + 1) < PAGE_WEIGHT → (made + 1) % 2 ^ 64 ≡ made + 1
no_wrap log made count few room = mod-eq_of_lt (omega (arith, few, room))

one_room : (log made events more : ℕ) → made ≤ events → events + 1 ≤ more → log + more < PAGE_WEIGHT → log + made < PAGE_WEIGHT
one_room log made events more few one room = omega (arith, few, one, room)

less_room : (log events more : ℕ) → events + 1 ≤ more → log + more < PAGE_WEIGHT → log + events < PAGE_WEIGHT
less_room log events more one room = omega (arith, one, room)

-- no jobs have made no events
pub to_none : (from : List JobParts) → events_in from [] ≡ 0
to_none [] = refl
to_none (x ∷ xs) = refl

-- what few calls are, by numbers of submits and of events
pub calls_so : (log every submits events before now made old new : ℕ) → (log + (SYSTEM_WEIGHT * (now - before) + made) < PAGE_WEIGHT → new ≤ old + 6 * (min (now - before) 1 + made / every + 1))
    → now ≡ before + submits → made ≡ events → log + (512 * submits + events) < 65536 → new ≤ old + 6 * (min submits 1 + events / every + 1)
calls_so log every submits events before now made old new few longer is room =
    let came : now - before ≡ submits = omega (arith, longer) in
    let both : SYSTEM_WEIGHT * (now - before) + made ≡ 512 * submits + events = ap₂ (λ (x y : ℕ). 512 * x + y) came is in
    subst (λ (k : ℕ). new ≤ old + 6 * (k + 1)) (ap₂ (λ (x y : ℕ). min x 1 + y / every) came is)
    (few (subst (λ (k : ℕ). log + k < PAGE_WEIGHT) (sym both) room))

pub one_more_unkept : (o m n unkept now : ℕ) → o ≤ m → n ≡ m + 1 → unkept ≤ m - o → now ≤ unkept + 1 → now ≤ n - o
one_more_unkept o m n unkept now more longer few one = omega (arith, more, longer, few, one)

-- ---- of rounds over a book

module _ {D : Type 0} {ghosts : Ghosts D} where
  pub clock_same : (old new : Book D ghosts) → keeper_of new ≡ keeper_of old → ghosts.clock (disk_of new) ≡ ghosts.clock (disk_of old)
  clock_same old new same = ap (λ (k : Keeper D ghosts). ghosts.clock (keeper_parts.disk_of k)) same

  clock_stays : (old new : Book D ghosts) → new ≡ old → ghosts.clock (disk_of new) ≡ ghosts.clock (disk_of old)
  clock_stays old new same = ap (λ (b : Book D ghosts). ghosts.clock (disk_of b)) same

  -- what the log weighs after one event
  one_longer : (e : Event) (old new : Book D ghosts) → GoesOn (e ∷ []) old new → weight_of (log_of new) ≡ weight_of (log_of old) + weight e
  one_longer e old new goes =
      let grown = weigh_on (log_of old) (log_of new) goes.entries (e ∷ []) goes.log goes.events in
      let one = weigh_first e [] in
      omega (arith, grown, one)

  -- so many rounds and halts were made, and stand in the log
  pub record HaveMade (made every : ℕ) (old new : Book D ghosts) : Type 0 where
    pub few : made ≤ events_in (table_of old) (table_of new)
    pub log : weight_of (log_of new) ≡ weight_of (log_of old) + made
    pub clock : ghosts.clock (disk_of new) ≤ ghosts.clock (disk_of old) + 6 * (made / every)

  abbrev pub RoomFor : Book D ghosts → (t : List JobParts) → Type 0
  RoomFor old t = weight_of (log_of old) + events_in (table_of old) t < PAGE_WEIGHT

  pub made_none : (every : ℕ) (book : Book D ghosts) → HaveMade 0 every book book
  made_none every book = record {
    few = omega arith;
    log = sum (weight_of (log_of book));
    clock = at_least (ghosts.clock (disk_of book)) (6 * (0 / every));
  }
    where
      sum : (n : ℕ) → n ≡ n + 0
      sum n = omega arith

  module _ (made every : ℕ) (old book : Book D ghosts) (some : 0 < every) (so_far : RoomFor old (table_of book) → HaveMade made every old book) where
    -- at a fault before the next one
    pub calls_then : (new : Book D ghosts) → table_of new ≡ table_of book → (HasSpare PAGE_WEIGHT book → keeper_of new ≡ keeper_of book) → RoomFor old (table_of new)
        → ghosts.clock (disk_of new) ≤ ghosts.clock (disk_of old) + 6 * (events_in (table_of old) (table_of new) / every)
    calls_then new same still room =
        let here = so_far (subst (RoomFor old) same room) in
        let less : made ≤ events_in (table_of old) (table_of new) = subst (λ (t : List JobParts). made ≤ events_in (table_of old) t) (sym same) here.few in
        let log = here.log in
        let spare : HasSpare PAGE_WEIGHT book = within (weight_of (log_of old)) (weight_of (log_of book)) made (events_in (table_of old) (table_of new)) log less room in
        not_kept (made / every) (events_in (table_of old) (table_of new) / every) (ghosts.clock (disk_of old)) (ghosts.clock (disk_of book)) (ghosts.clock (disk_of book)) (ghosts.clock (disk_of new))
        (more_parts made (events_in (table_of old) (table_of new)) every some less) here.clock refl (clock_same book new (still spare))
      where
        within : (a b made n : ℕ) → b ≡ a + made → made ≤ n → a + n < PAGE_WEIGHT → b < PAGE_WEIGHT
        within a b made n is less room = omega (arith, is, less, room)

    -- one more round, and a keep where it is due
    pub made_more : (now : ℕ) (e : Event) (mid new : Book D ghosts) → now ≡ (made + 1) % 2 ^ 64 → events_in (table_of old) (table_of book) + 1 ≤ events_in (table_of old) (table_of mid)
        → weight e ≡ 1 → (HasSpare PAGE_WEIGHT book → GoesOn (e ∷ []) book mid) → (HasSpare PAGE_WEIGHT book → keeper_of mid ≡ keeper_of book)
        → table_of new ≡ table_of mid → IsSamePage mid new → ghosts.clock (disk_of new) ≤ ghosts.clock (disk_of mid) + 6 → (now % every ≢ 0 → new ≡ mid)
        → RoomFor old (table_of new) → HaveMade now every old new
    made_more now e mid new is one light goes still same page six stays room =
        let a = weight_of (log_of old) in
        let events = events_in (table_of old) (table_of book) in
        let next_events = events_in (table_of old) (table_of mid) in
        let all : RoomFor old (table_of mid) = subst (RoomFor old) same room in
        let here = so_far (less_room a events next_events one all) in
        let next : now ≡ made + 1 = is ∙ no_wrap a made events here.few (whole a events next_events one all) in
        let spare : HasSpare PAGE_WEIGHT book = subst (λ (n : ℕ). n < PAGE_WEIGHT) (sym here.log) (one_room a made events next_events here.few one all) in
        subst (λ (n : ℕ). HaveMade n every old new) (sym next) (record {
          few = subst (λ (t : List JobParts). made + 1 ≤ events_in (table_of old) t) (sym same) (up made events next_events here.few one);
          log = ap weight_of page.log ∙ one_longer e book mid (goes spare) ∙ ap (λ (n : ℕ). weight_of (log_of book) + n) light ∙ more a made (weight_of (log_of book)) here.log;
          clock = calls_step made every (ghosts.clock (disk_of old)) (ghosts.clock (disk_of book)) (ghosts.clock (disk_of mid)) (ghosts.clock (disk_of new)) some here.clock
              (clock_same book mid (still spare)) six (λ other. clock_stays mid new (stays (subst (λ (n : ℕ). n % every ≢ 0) (sym next) other)));
        })
      where
        whole : (a events next_events : ℕ) → events + 1 ≤ next_events → a + next_events < PAGE_WEIGHT → a + (events + 1) < PAGE_WEIGHT
        whole a events next_events one room = omega (arith, one, room)

        up : (made events next_events : ℕ) → made ≤ events → events + 1 ≤ next_events → made + 1 ≤ next_events
        up made events next_events few one = omega (arith, few, one)

        more : (a made b : ℕ) → b ≡ a + made → b + 1 ≡ a + (made + 1)
        more a made b is = omega (arith, is)

  -- ---- of submits

  abbrev pub RoomToCome : Book D ghosts → (t : List JobParts) → Type 0
  RoomToCome old t = weight_of (log_of old) + SYSTEM_WEIGHT * come_to (table_of old) t < PAGE_WEIGHT

  pub come_none : (book : Book D ghosts) → HaveCome book book
  come_none book = record { log = sum (weight_of (log_of book)) (length (table_of book)); keeper = refl }
    where
      sum : (n k : ℕ) → n ≡ n + SYSTEM_WEIGHT * (k - k)
      sum n k = omega arith

  module _ (old mid : Book D ghosts) (first : length (table_of old) ≤ length (table_of mid)) (so_far : RoomToCome old (table_of mid) → HaveCome old mid) where
    -- one more has come
    pub come_more : (e : Event) (new : Book D ghosts) → weight e ≡ SYSTEM_WEIGHT → length (table_of new) ≡ length (table_of mid) + 1 → (HasSpare PAGE_WEIGHT mid → GoesOn (e ∷ []) mid new)
        → (HasSpare PAGE_WEIGHT mid → keeper_of new ≡ keeper_of mid) → RoomToCome old (table_of new) → HaveCome old new
    come_more e new weighs longer goes still room =
        let a = weight_of (log_of old) in
        let k = come_to (table_of old) (table_of mid) in
        let next : come_to (table_of old) (table_of new) ≡ k + 1 = one (length (table_of old)) (length (table_of mid)) (length (table_of new)) first longer in
        let all : a + SYSTEM_WEIGHT * (k + 1) < PAGE_WEIGHT = subst (λ (n : ℕ). a + SYSTEM_WEIGHT * n < PAGE_WEIGHT) next room in
        let here = so_far (fewer a k all) in
        let spare : HasSpare PAGE_WEIGHT mid = spare_one a k (weight_of (log_of mid)) here.log all in
        record {
          log = one_longer e mid new (goes spare) ∙ ap (λ (n : ℕ). weight_of (log_of mid) + n) weighs ∙ up a k (weight_of (log_of mid)) here.log
              ∙ ap (λ (n : ℕ). a + SYSTEM_WEIGHT * n) (sym next);
          keeper = still spare ∙ here.keeper;
        }
      where
        one : (o m n : ℕ) → o ≤ m → n ≡ m + 1 → n - o ≡ (m - o) + 1
        one o m n less is = omega (arith, less, is)

        fewer : (a k : ℕ) → a + SYSTEM_WEIGHT * (k + 1) < PAGE_WEIGHT → a + SYSTEM_WEIGHT * k < PAGE_WEIGHT
        fewer a k room = omega (arith, room)

        spare_one : (a k b : ℕ) → b ≡ a + SYSTEM_WEIGHT * k → a + SYSTEM_WEIGHT * (k + 1) < PAGE_WEIGHT → b < PAGE_WEIGHT
        spare_one a k b is room = omega (arith, is, room)

        up : (a k b : ℕ) → b ≡ a + SYSTEM_WEIGHT * k → b + SYSTEM_WEIGHT ≡ a + SYSTEM_WEIGHT * (k + 1)
        up a k b is = omega (arith, is)

    -- it failed, whether it has come or not
    pub come_or_not : (new : Book D ghosts) → length (table_of mid) ≤ length (table_of new) → (HasSpare PAGE_WEIGHT mid → keeper_of new ≡ keeper_of mid)
        → RoomToCome old (table_of new) → keeper_of new ≡ keeper_of old
    come_or_not new less still room =
        let a = weight_of (log_of old) in
        let k = come_to (table_of old) (table_of mid) in
        let more : k ≤ come_to (table_of old) (table_of new) = no_fewer (length (table_of old)) (length (table_of mid)) (length (table_of new)) less in
        let front = within a k (come_to (table_of old) (table_of new)) more room in
        let here = so_far front in
        still (subst (λ (n : ℕ). n < PAGE_WEIGHT) (sym here.log) front) ∙ here.keeper
      where
        no_fewer : (o m n : ℕ) → m ≤ n → m - o ≤ n - o
        no_fewer o m n less = omega (arith, less)

        within : (a k n : ℕ) → k ≤ n → a + SYSTEM_WEIGHT * n < PAGE_WEIGHT → a + SYSTEM_WEIGHT * k < PAGE_WEIGHT
        within a k n less room = omega (arith, less, room)

  pub no_calls : (old new : Book D ghosts) → keeper_of new ≡ keeper_of old → ghosts.clock (disk_of new) ≤ ghosts.clock (disk_of old) + 6 * min (come_to (table_of old) (table_of new)) 1
  no_calls old new same = no_more (ghosts.clock (disk_of old)) (ghosts.clock (disk_of new)) (min (come_to (table_of old) (table_of new)) 1) (clock_same old new same)
    where
      no_more : (a b m : ℕ) → b ≡ a → b ≤ a + 6 * m
      no_more a b m is = omega (arith, is)

  pub one_keep : (old mid new : Book D ghosts) → ghosts.clock (disk_of mid) ≡ ghosts.clock (disk_of old) → ghosts.clock (disk_of new) ≤ ghosts.clock (disk_of mid) + 6
      → length (table_of old) < length (table_of new) → ghosts.clock (disk_of new) ≤ ghosts.clock (disk_of old) + 6 * min (come_to (table_of old) (table_of new)) 1
  one_keep old mid new same six some =
      sixes (ghosts.clock (disk_of old)) (ghosts.clock (disk_of mid)) (ghosts.clock (disk_of new)) (min (come_to (table_of old) (table_of new)) 1) same six
      (one_came (length (table_of old)) (length (table_of new)) some)
    where
      one_came : (o n : ℕ) → o < n → min (n - o) 1 ≡ 1
      one_came o n less = omega (arith, less)

      sixes : (old mid new m : ℕ) → mid ≡ old → new ≤ mid + 6 → m ≡ 1 → new ≤ old + 6 * m
      sixes old mid new m same six is = omega (arith, same, six, is)

  -- they are kept, all by one keep, or none came
  pub come_kept : (old mid new : Book D ghosts) → HaveCome old mid → table_of new ≡ table_of mid → IsSamePage mid new → ghosts.clock (disk_of new) ≤ ghosts.clock (disk_of mid) + 6
      → length (table_of old) < length (table_of new) → AreKept old new
  come_kept old mid new come table page six some = record {
    log = ap weight_of page.log ∙ come.log ∙ ap (λ (t : List JobParts). weight_of (log_of old) + SYSTEM_WEIGHT * come_to (table_of old) t) (sym table);
    clock = one_keep old mid new (clock_same old mid come.keeper) six some;
  }

  pub come_same : (old new : Book D ghosts) → HaveCome old new → AreKept old new
  come_same old new come = record { log = come.log; clock = no_calls old new come.keeper }

  -- ---- of a batch

  module _ (jobs : List NewJob) (every : ℕ) (old mid : Book D ghosts) where
    -- a submit failed
    pub few_submits : (RoomToCome old (table_of mid) → ghosts.clock (disk_of mid) ≤ ghosts.clock (disk_of old) + 6 * min (come_to (table_of old) (table_of mid)) 1)
        → CallsFew jobs every old mid
    few_submits few room =
        let n = come_to (table_of old) (table_of mid) in
        let more = events_in (all_of jobs (table_of old)) (table_of mid) in
        more_sixes (min n 1) (more / every) (ghosts.clock (disk_of old)) (ghosts.clock (disk_of mid)) (few (within (weight_of (log_of old)) n more room))
      where
        within : (a n m : ℕ) → a + (SYSTEM_WEIGHT * n + m) < PAGE_WEIGHT → a + SYSTEM_WEIGHT * n < PAGE_WEIGHT
        within a n m room = omega (arith, room)

        more_sixes : (n q old new : ℕ) → new ≤ old + 6 * n → new ≤ old + 6 * ((n + q) + 1)
        more_sixes n q old new few = omega (arith, few)

    -- rounds and a keep came after all submits
    pub few_kept : table_of mid ≡ all_of jobs (table_of old) → (RoomToCome old (table_of mid) → AreKept old mid) → (new last : Book D ghosts) → length (table_of new) ≡ length (table_of mid)
        → (RoomFor mid (table_of new) → ghosts.clock (disk_of new) ≤ ghosts.clock (disk_of mid) + 6 * (events_in (table_of mid) (table_of new) / every))
        → table_of last ≡ table_of new → ghosts.clock (disk_of last) ≤ ghosts.clock (disk_of new) + 6 → CallsFew jobs every old last
    few_kept all come new last long rounds same six room =
        let a = weight_of (log_of old) in
        let n : ℕ = come_to (table_of old) (table_of mid) in
        let m : ℕ = events_in (table_of mid) (table_of new) in
        let is_n : come_to (table_of old) (table_of last) ≡ n = ap (λ (k : ℕ). k - length (table_of old)) (ap length same ∙ long) in
        let is_m : events_in (all_of jobs (table_of old)) (table_of last) ≡ m =
        ap (λ (t : List JobParts). events_in t (table_of last)) (sym all) ∙ ap (λ (t : List JobParts). events_in (table_of mid) t) same in
        let both : SYSTEM_WEIGHT * come_to (table_of old) (table_of last) + events_in (all_of jobs (table_of old)) (table_of last) ≡ SYSTEM_WEIGHT * n + m =
        ap₂ (λ (x y : ℕ). SYSTEM_WEIGHT * x + y) is_n is_m in
        let spare : a + (SYSTEM_WEIGHT * n + m) < PAGE_WEIGHT = subst (λ (k : ℕ). a + k < PAGE_WEIGHT) both room in
        let here = come (within a n m spare) in
        let made = rounds (again a n m (weight_of (log_of mid)) here.log spare) in
        subst (λ (k : ℕ). ghosts.clock (disk_of last) ≤ ghosts.clock (disk_of old) + 6 * (k + 1))
        (sym (ap₂ (λ (x y : ℕ). min x 1 + y / every) is_n is_m))
        (sum (min n 1) (m / every) (ghosts.clock (disk_of old)) (ghosts.clock (disk_of mid)) (ghosts.clock (disk_of new)) (ghosts.clock (disk_of last)) here.clock made six)
      where
        within : (a n m : ℕ) → a + (SYSTEM_WEIGHT * n + m) < PAGE_WEIGHT → a + SYSTEM_WEIGHT * n < PAGE_WEIGHT
        within a n m room = omega (arith, room)

        again : (a n m b : ℕ) → b ≡ a + SYSTEM_WEIGHT * n → a + (SYSTEM_WEIGHT * n + m) < PAGE_WEIGHT → b + m < PAGE_WEIGHT
        again a n m b is room = omega (arith, is, room)

        sum : (n q old mid new last : ℕ) → mid ≤ old + 6 * n → new ≤ mid + 6 * q → last ≤ new + 6 → last ≤ old + 6 * ((n + q) + 1)
        sum n q old mid new last first second third = omega (arith, first, second, third)

    pub few_rounds : table_of mid ≡ all_of jobs (table_of old) → (RoomToCome old (table_of mid) → AreKept old mid) → (new : Book D ghosts) → length (table_of new) ≡ length (table_of mid)
        → (RoomFor mid (table_of new) → ghosts.clock (disk_of new) ≤ ghosts.clock (disk_of mid) + 6 * (events_in (table_of mid) (table_of new) / every)) → CallsFew jobs every old new
    few_rounds all come new long rounds = few_kept all come new new long rounds refl (at_least (ghosts.clock (disk_of new)) 6)

  -- nothing was done
  pub few_none : (jobs : List NewJob) (every : ℕ) (book : Book D ghosts) → CallsFew jobs every book book
  few_none jobs every book room = at_least (ghosts.clock (disk_of book)) (6 * (min (come_to (table_of book) (table_of book)) 1 + events_in (all_of jobs (table_of book)) (table_of book) / every + 1))
