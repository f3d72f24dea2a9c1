-- Symbols that grow by what rules make of them.
use Rattle.std.proofs.Common.{◌≡◌, ◌⊎◌, inl, inr, ℕ, zero, suc, ◌+◌, ◌<◌, ◌==◌, List, [], ◌∷◌, ◌++◌, Bool, true, false, ◌≤◌, ◌||◌, IsTrue, length, drop, drop-cons, get_or, add-one, append-nil, append_assoc, refl, sym, ap, ◌∙◌, subst, arith, slice_index_or, if◌then◌else◌}
use Rattle.std.specs.Cmp.{unsigned_Decides}
use Rattle.std.specs.List.{AllByRecursion, remove}
use Rattle.std.proofs.lemmas.List.{drop_all}
use Rattle.std.proofs.lemmas.List.Folds.{list_any-append}
use Rattle.std.proofs.lemmas.Bool.{or_left, or_right, or_cases}
use Rattle.ic_rules.specs.Rule.{Rule}
use Rattle.ic_rules.specs.lemmas.NumberingLaws.{self_eq as is_itself}
use Rattle.ic_term.specs.Configuration.{Configuration}
use Rattle.ic_confluence.specs.Agents.{configuration_symbols}
use Rattle.ic_check.specs.Warnings.{AllAmong, IsKeptBy, IsReach}
use Rattle.ic_check.specs.inner.Growing.{AreMakings, Grows, HasNoReady, IsKept, IsMaking, IsReady, IsReadyAt, Joins, holds, with_symbol}
use Rattle.ic_check.specs.declared.reach.Making.{Making}
use Rattle.ic_check.proofs.Listing.{from_place}

-- ---- symbols among others

same_symbol : (x s : ℕ) → (x == s) ≡ true → x ≡ s
same_symbol x s e = (unsigned_Decides x s).0 e

holds_all : (xs ys : List ℕ) (s : ℕ) → holds (xs ++ ys) s ≡ (holds xs s || holds ys s)
holds_all xs ys s = list_any-append (λ t. t == s) xs ys

-- what is so of each symbol that stands there is so of all
pub all_from : (among : ℕ → Bool) (ss : List ℕ) → ((s : ℕ) → IsTrue (holds ss s) → IsTrue (among s)) → AllAmong among ss
all_from among [] each = tt
all_from among (x ∷ xs) each =
    (each x (or_left (x == x) (holds xs x) (is_itself x)), all_from among xs (λ s e. each s (or_right (x == s) (holds xs s) e)))

pub all_holds : (among : ℕ → Bool) (ss : List ℕ) → AllAmong among ss → (s : ℕ) → IsTrue (holds ss s) → IsTrue (among s)
all_holds among [] all s e = cc
all_holds among (x ∷ xs) all s e = elim (or_cases (x == s) (holds xs s) e) [
  | inl is ↦ subst (λ (n : ℕ). IsTrue (among n)) (same_symbol x s is) all.0
  | inr later ↦ all_holds among xs all.1 s later
]

pub all_map : {X : Type 0} (P Q : X → Type 0) (xs : List X) → ((x : X) → P x → Q x) → AllByRecursion P xs → AllByRecursion Q xs
all_map P Q [] f all = tt
all_map P Q (x ∷ xs) f all = (f x all.0, all_map P Q xs f all.1)

-- ---- symbols are joined

pub record IsJoined (old more now left : List ℕ) : Type 0 where
  pub keeps : (s : ℕ) → IsTrue (holds old s) → IsTrue (holds now s)
  pub has : (s : ℕ) → IsTrue (holds more s) → IsTrue (holds now s) ⊎ IsTrue (holds left s)
  pub no_other : (s : ℕ) → IsTrue (holds now s) → IsTrue (holds old s) ⊎ IsTrue (holds more s)
  pub sub : (s : ℕ) → IsTrue (holds left s) → IsTrue (holds more s)

pub joined_begin : (old more : List ℕ) → IsJoined old more old more
joined_begin old more = record { keeps = λ s e. e; has = λ s e. inr e; no_other = λ s e. inl e; sub = λ s e. e }

pub joined_push : (old more now left : List ℕ) (x : ℕ) → IsJoined old more now (x ∷ left) → IsJoined old more (now ++ x ∷ []) left
joined_push old more now left x is = record {
  keeps = λ s e. kept s (is.keeps s e);
  has = λ s e. elim (is.has s e) [
    | inl here ↦ inl (kept s here)
    | inr there ↦ elim (or_cases (x == s) (holds left s) there) [
      | inl one ↦ inl (holds_all now (x ∷ []) s ∙ or_right (holds now s) (holds (x ∷ []) s) (or_left (x == s) false one))
      | inr later ↦ inr later
    ]
  ];
  no_other = λ s e. elim (or_cases (holds now s) (holds (x ∷ []) s) (sym (holds_all now (x ∷ []) s) ∙ e)) [
    | inl here ↦ is.no_other s here
    | inr there ↦ inr (is.sub s (elim (or_cases (x == s) false there) [
      | inl one ↦ or_left (x == s) (holds left s) one
      | inr none ↦ cc
    ]))
  ];
  sub = λ s e. is.sub s (or_right (x == s) (holds left s) e);
}
  where
    kept : (s : ℕ) → IsTrue (holds now s) → IsTrue (holds (now ++ x ∷ []) s)
    kept s e = holds_all now (x ∷ []) s ∙ or_left (holds now s) (holds (x ∷ []) s) e

pub joined_held : (old more now left : List ℕ) (x : ℕ) → IsTrue (holds now x) → IsJoined old more now (x ∷ left) → IsJoined old more now left
joined_held old more now left x there is = record {
  keeps = is.keeps;
  has = λ s e. elim (is.has s e) [
    | inl here ↦ inl here
    | inr later ↦ elim (or_cases (x == s) (holds left s) later) [
      | inl one ↦ inl (subst (λ (n : ℕ). IsTrue (holds now n)) (same_symbol x s one) there)
      | inr rest ↦ inr rest
    ]
  ];
  no_other = is.no_other;
  sub = λ s e. is.sub s (or_right (x == s) (holds left s) e);
}

pub joined_next : (old more now left : List ℕ) (x : ℕ) (new : List ℕ) → IsJoined old more now (x ∷ left) → new ≡ with_symbol now x → IsJoined old more new left
joined_next old more now left x new is put = by_case (holds now x) refl put
  where
    by_case : (b : Bool) → holds now x ≡ b → new ≡ (if b then now else now ++ x ∷ []) → IsJoined old more new left
    by_case true there same = subst (λ (l : List ℕ). IsJoined old more l left) (sym same) (joined_held old more now left x there is)
    by_case false none same = subst (λ (l : List ℕ). IsJoined old more l left) (sym same) (joined_push old more now left x is)

-- the item at a place is joined
item_of : (xs : List ℕ) (i : ℕ) → i < length xs → drop i xs ≡ get_or xs i 0 ∷ drop (i + 1) xs
item_of xs i below = rw add-one (drop-cons xs i 0 below)

pub joined_item : (old more now : List ℕ) (i : ℕ) (new : List ℕ) → i < length more → IsJoined old more now (drop i more) → new ≡ with_symbol now (get_or more i 0)
    → IsJoined old more new (drop (i + 1) more)
joined_item old more now i new below is put =
    joined_next old more now (drop (i + 1) more) (get_or more i 0) new (subst (IsJoined old more now) (item_of more i below) is) put

pub joined_end : (old more now : List ℕ) (i : ℕ) → length more ≤ i → IsJoined old more now (drop i more) → Joins old more now
joined_end old more now i past is = ended (subst (IsJoined old more now) (drop_all i more past) is)
  where
    ended : IsJoined old more now [] → Joins old more now
    ended all = record {
      keeps = all.keeps;
      has = λ s e. elim (all.has s e) [
        | inl here ↦ here
        | inr none ↦ cc
      ];
      no_other = all.no_other;
    }

-- ---- those that wait

abbrev pub Stands : Making → List Making → Type 0
Stands m [] = ⊥
Stands m (w ∷ ws) = (m ≡ w) ⊎ Stands m ws

all_stand : (ms : List Making) → AllByRecursion (λ m. Stands m ms) ms
all_stand [] = tt
all_stand (m ∷ ms) = (inl refl, all_map (λ n. Stands n ms) (λ n. Stands n (m ∷ ms)) ms (λ n is. inr is) (all_stand ms))

-- one of them is taken out
stands_or : (m d : Making) (ws : List Making) (i : ℕ) → i < length ws → Stands m ws → Stands m (remove ws i) ⊎ (m ≡ slice_index_or ws i d)
stands_or m d [] i below is = absurd is
stands_or m d (w ∷ ws) zero below (inl one) = inr one
stands_or m d (w ∷ ws) zero below (inr later) = inl later
stands_or m d (w ∷ ws) (suc i) below (inl one) = inl (inl one)
stands_or m d (w ∷ ws) (suc i) below (inr later) = elim (stands_or m d ws i (omega arith) later) [
  | inl left ↦ inl (inr left)
  | inr taken ↦ inr taken
]

all_left : (P : Making → Type 0) (ws : List Making) (i : ℕ) → AllByRecursion P ws → AllByRecursion P (remove ws i)
all_left P [] zero all = all
all_left P [] (suc i) all = all
all_left P (w ∷ ws) zero all = all.1
all_left P (w ∷ ws) (suc i) all = (all.0, all_left P ws i all.1)

at_place : (P : Making → Type 0) (d : Making) (ws : List Making) (i : ℕ) → i < length ws → AllByRecursion P ws → P (slice_index_or ws i d)
at_place P d [] i below all = absurd (omega arith)
at_place P d (w ∷ ws) zero below all = all.0
at_place P d (w ∷ ws) (suc i) below all = at_place P d ws i (omega arith) all.1

-- ---- the symbols grow

pub record IsGrown (ms : List Making) (old : List ℕ) (waiting : List Making) (now : List ℕ) : Type 0 where
  pub keeps : (s : ℕ) → IsTrue (holds old s) → IsTrue (holds now s)
  pub made : AllByRecursion (λ m. Stands m waiting ⊎ AllAmong (holds now) m.made.items) ms
  pub sub : (other : ℕ → Bool) → AllByRecursion (IsKept other) ms → AllByRecursion (IsKept other) waiting
  pub least : (other : ℕ → Bool) → AllByRecursion (IsKept other) ms → ((s : ℕ) → IsTrue (holds old s) → IsTrue (other s))
      → (s : ℕ) → IsTrue (holds now s) → IsTrue (other s)

pub grown_begin : (ms : List Making) (old : List ℕ) → IsGrown ms old ms old
grown_begin ms old = record {
  keeps = λ s e. e;
  made = all_map (λ m. Stands m ms) (λ m. Stands m ms ⊎ AllAmong (holds old) m.made.items) ms (λ m is. inl is) (all_stand ms);
  sub = λ other all. all;
  least = λ other all begins s e. begins s e;
}

pub grown_next : (ms : List Making) (old : List ℕ) (waiting : List Making) (now : List ℕ) (i : ℕ) (m : Making) (new : List ℕ)
    → IsGrown ms old waiting now → IsReadyAt now waiting i → m ≡ slice_index_or waiting i m → Joins now m.made.items new → IsGrown ms old (remove waiting i) new
grown_next ms old waiting now i m new is ready at joins = record {
  keeps = λ s e. joins.keeps s (is.keeps s e);
  made = all_map (λ n. Stands n waiting ⊎ AllAmong (holds now) n.made.items) (λ n. Stands n (remove waiting i) ⊎ AllAmong (holds new) n.made.items) ms (λ n it. still n it) is.made;
  sub = λ other all. all_left (IsKept other) waiting i (is.sub other all);
  least = λ other all begins s e. elim (joins.no_other s e) [
    | inl here ↦ is.least other all begins s here
    | inr taken ↦ all_holds other m.made.items (kept other all begins) s taken
  ];
}
  where
    still : (n : Making) → Stands n waiting ⊎ AllAmong (holds now) n.made.items → Stands n (remove waiting i) ⊎ AllAmong (holds new) n.made.items
    still n (inl stands) = elim (stands_or n m waiting i ready.0 stands) [
      | inl left ↦ inl left
      | inr taken ↦ inr (subst (λ (k : Making). AllAmong (holds new) k.made.items) (at ∙ sym taken) (all_from (holds new) m.made.items joins.has))
    ]
    still n (inr has) = inr (all_from (holds new) n.made.items (λ s e. joins.keeps s (all_holds (holds now) n.made.items has s e)))

    kept : (other : ℕ → Bool) → AllByRecursion (IsKept other) ms → ((s : ℕ) → IsTrue (holds old s) → IsTrue (other s)) → AllAmong other m.made.items
    kept other all begins =
        let both : IsReady now m = ready.1 m at in
        let here : IsKept other (slice_index_or waiting i m) = at_place (IsKept other) m waiting i ready.0 (is.sub other all) in
        let mine : IsKept other m = subst (IsKept other) (sym at) here in
        mine (is.least other all begins m.left both.0) (is.least other all begins m.right both.1)

not_ready : (now : List ℕ) (m : Making) (ws : List Making) → HasNoReady now ws → Stands m ws → IsReady now m → ⊥
not_ready now m [] none is both = is
not_ready now m (w ∷ ws) none (inl one) both = none.0 (subst (IsReady now) one both)
not_ready now m (w ∷ ws) none (inr later) both = not_ready now m ws none.1 later both

pub grown_end : (ms : List Making) (old : List ℕ) (waiting : List Making) (now : List ℕ) → IsGrown ms old waiting now → HasNoReady now waiting → Grows ms old now
grown_end ms old waiting now is none = record {
  keeps = is.keeps;
  closed = all_map (λ m. Stands m waiting ⊎ AllAmong (holds now) m.made.items) (IsKept (holds now)) ms (λ m it. closed m it) is.made;
  least = is.least;
}
  where
    closed : (m : Making) → Stands m waiting ⊎ AllAmong (holds now) m.made.items → IsKept (holds now) m
    closed m (inl stands) left right = absurd (not_ready now m waiting none stands (left, right))
    closed m (inr has) left right = has

-- ---- the reach of rules

kept_by : (among : ℕ → Bool) (r : Rule) (m : Making) → IsMaking r m → IsKept among m → IsKeptBy among r
kept_by among r m is kept left right =
    subst (AllAmong among) is.made (kept (subst (λ (s : ℕ). IsTrue (among s)) (sym is.left) left) (subst (λ (s : ℕ). IsTrue (among s)) (sym is.right) right))

kept_from : (among : ℕ → Bool) (r : Rule) (m : Making) → IsMaking r m → IsKeptBy among r → IsKept among m
kept_from among r m is kept left right =
    subst (AllAmong among) (sym is.made) (kept (subst (λ (s : ℕ). IsTrue (among s)) is.left left) (subst (λ (s : ℕ). IsTrue (among s)) is.right right))

all_kept_by : (among : ℕ → Bool) (rs : List Rule) (ms : List Making) → AreMakings rs ms → AllByRecursion (IsKept among) ms → AllByRecursion (IsKeptBy among) rs
all_kept_by among [] [] are all = tt
all_kept_by among (r ∷ rs) (m ∷ ms) are all = (kept_by among r m are.0 all.0, all_kept_by among rs ms are.1 all.1)
all_kept_by among _ _ are all = absurd are

all_kept_from : (among : ℕ → Bool) (rs : List Rule) (ms : List Making) → AreMakings rs ms → AllByRecursion (IsKeptBy among) rs → AllByRecursion (IsKept among) ms
all_kept_from among [] [] are all = tt
all_kept_from among (r ∷ rs) (m ∷ ms) are all = (kept_from among r m are.0 all.0, all_kept_from among rs ms are.1 all.1)
all_kept_from among _ _ are all = absurd are

-- symbols of the configuration, joined and grown, are the reach
pub is_reach : (rs : List Rule) (c : Configuration) (symbols first seen : List ℕ) (ms : List Making) → symbols ≡ configuration_symbols c → Joins [] symbols first
    → AreMakings rs ms → Grows ms first seen → IsReach rs c (holds seen)
is_reach rs c symbols first seen ms are joins makings grows = record {
  closed = record {
    begins = all_from (holds seen) (configuration_symbols c) (λ s e. grows.keeps s (joins.has s (subst (λ (l : List ℕ). IsTrue (holds l s)) (sym are) e)));
    goes_on = all_kept_by (holds seen) rs ms makings grows.closed;
  };
  least = λ other closed s e. grows.least other (all_kept_from other rs ms makings closed.goes_on) (λ t it. first_among other closed.begins t (joins.no_other t it)) s e;
}
  where
    first_among : (other : ℕ → Bool) → AllAmong other (configuration_symbols c) → (t : ℕ) → IsTrue (holds [] t) ⊎ IsTrue (holds symbols t) → IsTrue (other t)
    first_among other begins t (inl none) = cc
    first_among other begins t (inr there) = all_holds other (configuration_symbols c) begins t (subst (λ (l : List ℕ). IsTrue (holds l t)) are there)

-- ---- what rules make

abbrev pub GoesOnWith : List Rule → List Rule → List Making → Type 0
GoesOnWith rs left ms = (more : List Making) → AreMakings left more → AreMakings rs (ms ++ more)

pub makings_next : (rs : List Rule) (i : ℕ) (r : Rule) (ms new : List Making) (m : Making) → i < length rs → r ≡ get_or rs i r → IsMaking r m → new ≡ ms ++ m ∷ []
    → GoesOnWith rs (drop i rs) ms → GoesOnWith rs (drop (i + 1) rs) new
makings_next rs i r ms new m below at is put so_far more rest =
    let here : AreMakings (drop i rs) (m ∷ more) = subst (λ (l : List Rule). AreMakings l (m ∷ more)) (sym (from_place rs i r below at)) (is, rest) in
    subst (AreMakings rs) (sym (append_assoc ms (m ∷ []) more) ∙ ap (λ l. l ++ more) (sym put)) (so_far (m ∷ more) here)

pub makings_end : (rs : List Rule) (i : ℕ) (ms : List Making) → length rs ≤ i → GoesOnWith rs (drop i rs) ms → AreMakings rs ms
makings_end rs i ms past so_far =
    subst (AreMakings rs) (append-nil ms) (so_far [] (subst (λ (l : List Rule). AreMakings l []) (sym (drop_all i rs past)) tt))
