-- Lemmas: rounds of a machine, one after the other.
use Rattle.std.proofs.Common.{◌≡◌, ◌⊎◌, ⊎_elim, inl, inr, ℕ, zero, suc, ◌+◌, ◌<◌, ◌≤◌, Option, None, Some, List, [], ◌∷◌, ◌++◌, length, take, refl, sym, ap, ◌∙◌, arith, subst}
use Rattle.std.specs.List.{AllByRecursion, concat}
use Rattle.std.specs.Prelude.{Contains}
use Rattle.std.proofs.lemmas.List.{append-nil, length-append}
use Rattle.std.proofs.lemmas.List.Folds.{concat-append}
use Rattle.std.proofs.lemmas.List.Sorted.{Contains-permutation, length_permutation}
use Rattle.ic_arena.specs.Piece.{Piece}
use Rattle.ic_machine.specs.declared.equation.Equation.{Equation}
use Rattle.ic_machine.specs.declared.generation.Generation.{Generation}
use Rattle.ic_machine.specs.Generations.{Advances, IsWithin, Takes, beside, ended, fires, later, present, stays}
use Rattle.ic_machine.specs.Net.{Net, HasNext, IsActive, IsStuck, equated_of}
use Rattle.ic_machine.specs.Plan.{Plans}
use Rattle.ic_machine.specs.Runs.{Ran}
use Rattle.ic_machine.specs.lemmas.FiringKeeps.{all_append}
use Rattle.ic_machine.specs.lemmas.RunsOn.{ran_none, ran_none-fired, ran_on, ran_on-fired}
use Rattle.ic_in_place.specs.declared.running.End.{End}
use Rattle.ic_in_place.specs.declared.running.End.TheVariants.{Quiet, Steps, Nodes, Limit, Memory}
use Rattle.ic_meaning.specs.InPlace.{AreRounds, begun, goes_on, next_round}
use Rattle.ic_in_place.specs.Rounds.{AreOver, AreTold, EndsAfter, FireAfterFirst, GoOn, IsBrokenOff, none_told, none_yet, one_told, some}
use Rattle.ic_in_place.specs.Told.{RoundOver, IsBetween}
use Rattle.ic_in_place.specs.inner.Rounds.{AreEarly, AreSomeActive, RoundBegins}

-- ---- lists

all_taken : {X : Type 0} (xs : List X) → take (length xs) xs ≡ xs
all_taken [] = refl
all_taken (x ∷ xs) = ap (λ l. x ∷ l) (all_taken xs)

-- ---- a pair that can fire is fired

active_or_stuck : (p : Plans) (e : Equation) → IsActive p e → ¬ IsStuck p e
active_or_stuck p e active stuck =
    let none = stuck.no_plan active.left active.right active.left_tag active.right_tag active.left_known active.right_known in
    let some = active.is in
    cc

among_others : (p : Plans) (es : List Equation) (d e : Equation) → IsActive p e → IsStuck p d → Contains (d ∷ es) e → Contains es e
among_others p es d e active stuck (zero, few, same) =
    absurd (active_or_stuck p e active (subst (IsStuck p) same stuck))
among_others p es d e active stuck (suc k, few, same) = (k, omega (arith, few), same)

takes_active : (p : Plans) (now left : List Equation) (is : List ℕ) (xs ys : List Piece) (e : Equation) → Takes p now left is xs ys
    → left ≡ [] → Contains now e → IsActive p e → 1 ≤ length is
takes_active p _ _ _ _ _ e (ended now left xs ys order t) none there active =
    let found = Contains-permutation now left e order there in
    absurd (omega (arith, found.1, ap (length {A = Equation}) none))
takes_active p _ _ _ _ _ e (fires d now es left i is xs before after ys order t f r) none there active = omega arith
takes_active p _ _ _ _ _ e (stays d now es left is xs before ys order t stuck r) none there active =
    takes_active p es left is (equated_of d ∷ before) ys e r none
    (among_others p es d e active stuck (Contains-permutation now (d ∷ es) e order there)) active

-- ---- what fired

concat_next : (ms : List (List ℕ)) (fired : List ℕ) → concat (ms ++ fired ∷ []) ≡ concat ms ++ fired
concat_next ms fired = concat-append ms (fired ∷ []) ∙ ap (λ (l : List ℕ). concat ms ++ l) (append-nil fired)

-- in rounds, and since
fired_since : (p : Plans) (pairs rounds : ℕ) (g : Generation) (first old new : Net) (b : RoundBegins p pairs rounds g first old) (ran : Ran p old new)
    → (ran_on p first old new b.ran ran).fired ≡ concat b.made ++ ran.fired
fired_since p pairs rounds g first old new b ran =
    ran_on-fired p first old new b.ran ran ∙ ap (λ (l : List ℕ). l ++ ran.fired) b.fired

-- ---- one round more

advanced_active : (p : Plans) (g h : Generation) (old new : Net) (a : Advances p g h old new) → h.end ≡ 0
    → AreSomeActive p (present g old.pending) → 1 ≤ length a.ran.fired
advanced_active p g h old new a over active =
    takes_active p (present g old.pending) (present h new.pending) a.ran.fired (beside (later g old.pending) old)
    (beside (later h new.pending) new) active.0 a.takes
    (ap (λ (k : ℕ). take k new.pending) over) active.1 active.2

each_more : (ms : List (List ℕ)) (fired : List ℕ) → AllByRecursion (λ f. 1 ≤ length f) ms → 1 ≤ length fired
    → AllByRecursion (λ f. 1 ≤ length f) (ms ++ fired ∷ [])
each_more [] fired all one = (one, tt)
each_more (n ∷ ns) fired all one = (all.0, each_more ns fired all.1 one)

fire_more : (made : List (List ℕ)) (fired : List ℕ) → FireAfterFirst made → (made ≡ []) ⊎ (1 ≤ length fired)
    → FireAfterFirst (made ++ fired ∷ [])
fire_more [] fired firing one = tt
fire_more (m ∷ made) fired firing (inl none) = absurd (cc none)
fire_more (m ∷ made) fired firing (inr one) = each_more made fired firing one

some_fires : (p : Plans) (pairs rounds : ℕ) (g h : Generation) (first old new : Net) → RoundBegins p pairs rounds g first old
    → (a : Advances p g h old new) → h.end ≡ 0 → (made : List (List ℕ))
    → (made ≡ []) ⊎ AreSomeActive p (present g old.pending) → (made ≡ []) ⊎ (1 ≤ length a.ran.fired)
some_fires p pairs rounds g h first old new b a over made (inl none) = inl none
some_fires p pairs rounds g h first old new b a over made (inr active) = inr (advanced_active p g h old new a over active)

-- what is told as one round more is over
abbrev pub told_next : List RoundOver → (rounds fired : ℕ) → Net → List RoundOver
told_next told rounds fired m = told ++ record { round = rounds + 1; pairs = fired; net = m } ∷ []

-- it is told by the numbers that a round has
pub told_over : (T : List RoundOver → Type 0) (told : List RoundOver) (round pairs rounds fired : ℕ) (m : Net)
    → T (told ++ record { round = round + 1; pairs = pairs; net = m } ∷ []) → round ≡ rounds → pairs ≡ fired → T (told_next told rounds fired m)
told_over T told round pairs rounds fired m holds same many = subst T (λ i. told_next told (same i) (many i) m) holds

-- as many are told as are over
pub as_many_told : (p : Plans) (first : Net) (pairs : ℕ) (made : List (List ℕ)) (told : List RoundOver) → AreTold p first pairs made told
    → length told ≡ length made
as_many_told p first pairs made told none_told = refl
as_many_told p first pairs made told (one_told over fired so_far m are done between) =
    let rest = as_many_told p first pairs over so_far are in
    let one : length (told_next so_far (length over) (length fired) m) ≡ length so_far + 1 =
    length-append so_far (record { round = length over + 1; pairs = length fired; net = m } ∷ []) in
    let other : length (over ++ fired ∷ []) ≡ length over + 1 = length-append over (fired ∷ []) in
    omega (arith, rest, one, other)

-- ---- rounds go on while too few interactions are made

pub none_early : (enough : Option ℕ) → AreEarly enough []
none_early None = tt
none_early (Some n) = tt

all_later : (n rounds : ℕ) (end : End) (since : ℕ) (told : List RoundOver) → AllByRecursion (λ o. o.net.interactions < n) told
    → AllByRecursion (λ o. (o.round < rounds) ⊎ IsBrokenOff end since → o.net.interactions < n) told
all_later n rounds end since [] each = tt
all_later n rounds end since (o ∷ told) each = ((λ later. each.0), all_later n rounds end since told each.1)

-- of rounds that were all followed by another
pub early_go_on : (enough : Option ℕ) (rounds : ℕ) (end : End) (since : ℕ) (told : List RoundOver) → AreEarly enough told → GoOn enough rounds end since told
early_go_on None rounds end since told each = tt
early_go_on (Some n) rounds end since told each = all_later n rounds end since told each

-- and of the last one, too, after which none was begun
pub last_goes_on : (enough : Option ℕ) (rounds taken : ℕ) (end : End) (since : ℕ) (told : List RoundOver) (fired : ℕ) (m : Net) → AreEarly enough told → taken ≡ rounds + 1 → ¬ IsBrokenOff end since
    → GoOn enough taken end since (told_next told rounds fired m)
last_goes_on None rounds taken end since told fired m each same whole = tt
last_goes_on (Some n) rounds taken end since told fired m each same whole =
    all_append (λ (o : RoundOver). (o.round < taken) ⊎ IsBrokenOff end since → o.net.interactions < n) told (record { round = rounds + 1; pairs = fired; net = m } ∷ [])
    (all_later n taken end since told each) (⊎_elim (λ low. absurd (omega (arith, low, same))) (λ broken. absurd (whole broken)), tt)

-- where no pair has fired since, only a bound or a limit breaks a round off
pub is_whole : (end : End) (since : ℕ) → since ≡ 0 → ¬ (end ≡ Nodes) → ¬ (end ≡ Limit) → ¬ IsBrokenOff end since
is_whole Quiet since none nodes limit broken = broken
is_whole Steps since none nodes limit broken = broken
is_whole Nodes since none nodes limit broken = nodes refl
is_whole Limit since none nodes limit broken = limit refl
is_whole Memory since none nodes limit broken = omega (arith, none, broken)

pub early_next : (enough : Option ℕ) (rounds : ℕ) (told : List RoundOver) (fired : ℕ) (m : Net) → AreEarly enough told → ((n : ℕ) → enough ≡ Some n → m.interactions < n)
    → AreEarly enough (told_next told rounds fired m)
early_next None rounds told fired m each more = tt
early_next (Some n) rounds told fired m each more =
    all_append (λ (o : RoundOver). o.net.interactions < n) told (record { round = rounds + 1; pairs = fired; net = m } ∷ []) each (more n refl, tt)

-- What is known as a round is over.
pub record RoundIsOver (p : Plans) (pairs rounds : ℕ) (g h : Generation) (first old new : Net)
    (b : RoundBegins p pairs rounds g first old) (a : Advances p g h old new) : Type 0 where
  pub are : AreRounds p first pairs b.made a.ran.fired h new
  pub over : AreOver p first pairs (b.made ++ a.ran.fired ∷ []) new
  pub count : rounds + 1 ≡ length (b.made ++ a.ran.fired ∷ [])
  pub firing : FireAfterFirst (b.made ++ a.ran.fired ∷ [])
  pub are_told : AreTold p first pairs (b.made ++ a.ran.fired ∷ []) (told_next b.told (length b.made) (length a.ran.fired) new)

pub is_over : (p : Plans) (pairs rounds : ℕ) (g h : Generation) (first old new : Net) (b : RoundBegins p pairs rounds g first old)
    (a : Advances p g h old new) → h.end ≡ 0 → IsBetween new → RoundIsOver p pairs rounds g h first old new b a
is_over p pairs rounds g h first old new b a over between =
    let are : AreRounds p first pairs b.made a.ran.fired h new = goes_on b.made [] g h old new b.are a in
    let many : length (b.made ++ a.ran.fired ∷ []) ≡ length b.made + 1 = length-append b.made (a.ran.fired ∷ []) in
    let done : AreOver p first pairs (b.made ++ a.ran.fired ∷ []) new = some b.made a.ran.fired h new are over in
    record {
      are = are;
      over = done;
      are_told = one_told b.made a.ran.fired b.told new b.are_told done between;
      count = omega (arith, many, b.count);
      firing = fire_more b.made a.ran.fired b.firing (some_fires p pairs rounds g h first old new b a over b.made b.active);
    }

-- the first round begins
pub first_begins : (p : Plans) (pairs : ℕ) (m : Net) → pairs ≤ length m.pending → (P : List RoundOver → Type 0) → P []
    → (b : RoundBegins p pairs 0 (record { end = pairs }) m m) × P b.told
first_begins p pairs m few P holds = (
  record {
    made = [];
    are = begun;
    over = none_yet;
    count = refl;
    firing = tt;
    told = [];
    are_told = none_told;
    active = inl refl;
    within = few;
    ran = ran_none p m;
    fired = ran_none-fired p m;
  },
  holds,
)

-- the next round begins, if a pair can fire
pub next_begins : (p : Plans) (pairs rounds : ℕ) (g h : Generation) (first old new : Net) (b : RoundBegins p pairs rounds g first old)
    (a : Advances p g h old new) → h.end ≡ 0 → IsBetween new → AreSomeActive p new.pending
    → (P : List RoundOver → Type 0) → P (told_next b.told (length b.made) (length a.ran.fired) new)
    → (next : RoundBegins p pairs (rounds + 1) (record { end = length new.pending }) first new) × P next.told
next_begins p pairs rounds g h first old new b a over between active P holds =
    let done = is_over p pairs rounds g h first old new b a over between in
    let next : RoundBegins p pairs (rounds + 1) (record { end = length new.pending }) first new = record {
      made = b.made ++ a.ran.fired ∷ [];
      are = next_round b.made a.ran.fired h new done.are over between.places;
      over = done.over;
      count = done.count;
      firing = done.firing;
      told = told_next b.told (length b.made) (length a.ran.fired) new;
      are_told = done.are_told;
      active = inr (subst (AreSomeActive p) (sym (all_taken new.pending)) active);
      within = omega arith;
      ran = ran_on p first old new b.ran a.ran;
      fired = fired_since p pairs rounds g first old new b a.ran ∙ sym (concat_next b.made a.ran.fired);
    } in
    (next, holds)

-- ---- ends

neither : (end : End) {A : Type 0} → ¬ (end ≡ Quiet) → ¬ (end ≡ Steps) → (end ≡ Quiet) ⊎ (end ≡ Steps) → A
neither end quiet steps (inl is) = absurd (quiet is)
neither end quiet steps (inr is) = absurd (steps is)

-- Within a round.
pub ends_within : (p : Plans) (pairs most rounds : ℕ) (end : End) (g h : Generation) (first old new : Net)
    → (b : RoundBegins p pairs rounds g first old) → Advances p g h old new → 0 < h.end → IsWithin h new.pending → rounds ≤ most → ¬ (end ≡ Quiet) → ¬ (end ≡ Steps)
    → (P : ℕ → List RoundOver → Type 0) → ((n : ℕ) → P n b.told) → (ends : EndsAfter p pairs most rounds end first new) × P (length ends.since.fired) ends.told
ends_within p pairs most rounds end g h first old new b a left inside few quiet steps P holds = (
  record {
    made = b.made;
    last = old;
    over = b.over;
    count = b.count;
    within = few;
    firing = b.firing;
    told = b.told;
    are_told = b.are_told;
    ran = ran_on p first old new b.ran a.ran;
    since = a.ran;
    all_fired = fired_since p pairs rounds g first old new b a.ran;
    under_way = inr (h, omega (arith, left), inside, goes_on b.made [] g h old new b.are a);
    whole = neither end quiet steps;
    quiet = λ is. absurd (quiet is);
    some = λ is. absurd (quiet is);
    all = λ is. absurd (steps is);
    more = λ is. absurd (steps is);
  },
  holds (length a.ran.fired),
)

-- As a round is over, and no pair is left that can fire.
pub ends_quiet : (p : Plans) (pairs most rounds : ℕ) (g h : Generation) (first old new : Net)
    → (b : RoundBegins p pairs rounds g first old) → (a : Advances p g h old new) → h.end ≡ 0 → rounds + 1 ≤ most
    → IsBetween new → AllByRecursion (IsStuck p) new.pending → (P : ℕ → List RoundOver → Type 0) → ((n : ℕ) → P n (told_next b.told (length b.made) (length a.ran.fired) new))
    → (ends : EndsAfter p pairs most (rounds + 1) Quiet first new) × P (length ends.since.fired) ends.told
ends_quiet p pairs most rounds g h first old new b a over few between stuck P holds =
    let done = is_over p pairs rounds g h first old new b a over between in (
      record {
        made = b.made ++ a.ran.fired ∷ [];
        last = new;
        over = done.over;
        count = done.count;
        within = few;
        firing = done.firing;
        told = told_next b.told (length b.made) (length a.ran.fired) new;
        are_told = done.are_told;
        ran = ran_on p first old new b.ran a.ran;
        since = ran_none p new;
        all_fired = fired_since p pairs rounds g first old new b a.ran
            ∙ (sym (concat_next b.made a.ran.fired)
            ∙ (sym (append-nil (concat (b.made ++ a.ran.fired ∷ [])))
            ∙ ap (λ (l : List ℕ). concat (b.made ++ a.ran.fired ∷ []) ++ l) (sym (ran_none-fired p new))));
        under_way = inl (ran_none-fired p new);
        whole = λ is. ran_none-fired p new;
        quiet = λ is. stuck;
        some = λ is one. omega arith;
        all = λ is. absurd (cc is);
        more = λ is. absurd (cc is);
      },
      holds (length (ran_none p new).fired),
    )

-- As all rounds are over.
pub ends_all : (p : Plans) (pairs most : ℕ) (end : End) (g : Generation) (first last new : Net) → (b : RoundBegins p pairs most g first last)
    → (ran : Ran p last new) → ran.fired ≡ [] → (end ≡ Quiet → AllByRecursion (IsStuck p) new.pending)
    → (end ≡ Steps → HasNext p new.pending) → (P : ℕ → List RoundOver → Type 0) → ((n : ℕ) → n ≡ 0 → P n b.told)
    → (ends : EndsAfter p pairs most most end first new) × P (length ends.since.fired) ends.told
ends_all p pairs most end g first last new b ran none quiet more P holds = (
  record {
    made = b.made;
    last = last;
    over = b.over;
    count = b.count;
    within = omega arith;
    firing = b.firing;
    told = b.told;
    are_told = b.are_told;
    ran = ran_on p first last new b.ran ran;
    since = ran;
    all_fired = fired_since p pairs most g first last new b ran;
    under_way = inl none;
    whole = λ is. none;
    quiet = quiet;
    some = λ is one. one;
    all = λ is. refl;
    more = more;
  },
  holds (length ran.fired) (ap length none),
)
