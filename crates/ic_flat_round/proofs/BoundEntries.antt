-- What the tree of bound names says of the terms that wait: one taken out, one put in.
use Rattle.std.proofs.Common.{◌≡◌, ℕ, ◌+◌, List, [], ◌∷◌, Bool, true, false, cond, Option, None, Some, option_map, MatchOption, refl, sym, ap, ◌∙◌, inl, inr, arith}
use Rattle.std.proofs.lemmas.Bool.{cases_Bool, eqb-true, eq-eqb, true≢false}
use Rattle.std.proofs.lemmas.Bool.Decides.{nat_tests}
use Rattle.std.proofs.lemmas.List.Sums.{sum_by-cons}
use Rattle.std.specs.declared.cmp.Ordering.{Ordering}
use Rattle.std.specs.declared.cmp.Ordering.TheVariants.{Less, Equal, Greater}
use Rattle.std.specs.Prelude.{nat_eq, sum_by, is_some}
use Rattle.std.specs.Option.{IfNone}
use Rattle.std.specs.Ordering.{nat_cmp, is_eq, match_ordering}
use Rattle.std.specs.Map.{lookup, remove_entry}
use Rattle.std.specs.BTreeMap.{insert_entry}
use Rattle.ic_term.specs.Tree.{Tree, names, nodes}
use Rattle.ic_term.specs.Configuration.{occurrences}
use Rattle.ic_settle.specs.lemmas.Taking.{look-kept_by, held-kept_by, nodes-kept_by}
use Rattle.ic_settle.specs.lemmas.Waiting.{kept_by, look, IsTaken, IsAdded}

-- the tree's test of a name is equality
pub is_same : (a b : ℕ) → is_eq (nat_cmp a b) ≡ nat_eq a b
is_same a b = grind (arith, nat_tests)

pub same_test : (x : ℕ) → (λ (k : ℕ). is_eq (nat_cmp x k)) ≡ nat_eq x
same_test x = λ i k. is_same x k i

-- ---- sums over the values

removed : {V : Type 0} (f : V → ℕ) (x : ℕ) (es : List (ℕ × V)) (t : V) → lookup (nat_eq x) es ≡ Some t
    → sum_by (λ e. f e.1) (remove_entry (nat_eq x) es) + f t ≡ sum_by (λ e. f e.1) es
removed f x [] t is = cc
removed {V} f x (e ∷ es) t is =
    let g : ℕ × V → ℕ = λ a. f a.1 in
    elim (cases_Bool (nat_eq x e.0)) [
      | inl p ↦ let same : Some e.1 ≡ Some t = sym (ap (λ b. cond b (Some e.1) (lookup (nat_eq x) es)) p) ∙ is in
          let value : e.1 ≡ t = cc in
          ap (λ b. sum_by g (cond b es (e ∷ remove_entry (nat_eq x) es)) + f t) p ∙ swapped (sum_by g es) (f t) (g e) (ap f (sym value)) ∙ sym (sum_by-cons g e es)
      | inr p ↦ let later : lookup (nat_eq x) es ≡ Some t = sym (ap (λ b. cond b (Some e.1) (lookup (nat_eq x) es)) p) ∙ is in
          let rest = removed f x es t later in
          ap (λ b. sum_by g (cond b es (e ∷ remove_entry (nat_eq x) es)) + f t) p ∙ ap (λ s. s + f t) (sum_by-cons g e (remove_entry (nat_eq x) es))
          ∙ moved (g e) (sum_by g (remove_entry (nat_eq x) es)) (sum_by g es) (f t) rest ∙ sym (sum_by-cons g e es)
    ]
  where
    swapped : (s a b : ℕ) → a ≡ b → s + a ≡ b + s
    swapped s a b h = omega arith

    moved : (a s r k : ℕ) → s + k ≡ r → (a + s) + k ≡ a + r
    moved a s r k h = omega arith

inserted : {V : Type 0} (f : V → ℕ) (x : ℕ) (es : List (ℕ × V)) (t : V) → lookup (nat_eq x) es ≡ None
    → sum_by (λ e. f e.1) (insert_entry nat_cmp es x t) ≡ sum_by (λ e. f e.1) es + f t
inserted f x [] t is = refl
inserted {V} f x (e ∷ es) t is = by (nat_cmp x e.0) refl (inserted f x es t)
  where
    g : ℕ × V → ℕ
    g a = f a.1

    commuted : (a b : ℕ) → a + b ≡ b + a
    commuted a b = omega arith

    moved : (a s r k : ℕ) → s ≡ r + k → a + s ≡ (a + r) + k
    moved a s r k h = omega arith

    by : (r : Ordering) → nat_cmp x e.0 ≡ r
        → (lookup (nat_eq x) es ≡ None → sum_by g (insert_entry nat_cmp es x t) ≡ sum_by g es + f t)
        → sum_by g (match_ordering r ((x, t) ∷ e ∷ es) ((e.0, t) ∷ es) (e ∷ insert_entry nat_cmp es x t)) ≡ sum_by g (e ∷ es) + f t
    by Less c rest = sum_by-cons g (x, t) (e ∷ es) ∙ commuted (f t) (sum_by g (e ∷ es))
    by Equal c rest =
        let here : nat_eq x e.0 ≡ true = sym (is_same x e.0) ∙ ap is_eq c in
        let bad : Some e.1 ≡ None = sym (ap (λ b. cond b (Some e.1) (lookup (nat_eq x) es)) here) ∙ is in cc
    by Greater c rest =
        let apart : nat_eq x e.0 ≡ false = sym (is_same x e.0) ∙ ap is_eq c in
        let later : lookup (nat_eq x) es ≡ None = sym (ap (λ b. cond b (Some e.1) (lookup (nat_eq x) es)) apart) ∙ is in
        sum_by-cons g e (insert_entry nat_cmp es x t) ∙ moved (g e) (sum_by g (insert_entry nat_cmp es x t)) (sum_by g es) (f t) (rest later)
        ∙ ap (λ s. s + f t) (sym (sum_by-cons g e es))

-- ---- the bindings that wait

inward : {V : Type 0} (view : V → Tree) (b : Bool) (p o : Option V) → option_map view (cond b p o) ≡ cond b (option_map view p) (option_map view o)
inward view true p o = refl
inward view false p o = refl

none_there : {V : Type 0} (view : V → Tree) (o : Option V) → option_map view o ≡ None → o ≡ None
none_there view None e = refl
none_there view (Some t) e = cc

pub taken_is : {V : Type 0} (view : V → Tree) (es es' : List (ℕ × V)) (x : ℕ) (o : Option V) → o ≡ lookup (nat_eq x) es
    → ((q : ℕ) → lookup (nat_eq q) es' ≡ cond (nat_eq x q) None (lookup (nat_eq q) es)) → es' ≡ remove_entry (nat_eq x) es → IfNone o (es' ≡ es)
    → MatchOption o ((look (kept_by view es) x ≡ None) × (kept_by view es' ≡ kept_by view es)) (λ t. IsTaken (kept_by view es) (kept_by view es') x (view t))
taken_is view es es' x None is updates entries same = (look-kept_by view es x ∙ ap (option_map view) (sym is), ap (kept_by view) same)
taken_is view es es' x (Some t) is updates entries same = record {
  there = look-kept_by view es x ∙ ap (option_map view) (sym is);
  gone = λ q. look-kept_by view es' q ∙ ap (option_map view) (updates q) ∙ inward view (nat_eq x q) None (lookup (nat_eq q) es)
      ∙ ap (cond (nat_eq x q) None) (sym (look-kept_by view es q));
  held = λ y.
      ap (λ n. n + occurrences y (names (view t))) (held-kept_by view es' y)
      ∙ ap (λ l. sum_by (λ e. occurrences y (names (view e.1))) l + occurrences y (names (view t))) entries
      ∙ removed (λ v. occurrences y (names (view v))) x es t (sym is) ∙ sym (held-kept_by view es y);
  nodes = ap (λ n. n + nodes (view t)) (nodes-kept_by view es')
      ∙ ap (λ l. sum_by (λ e. nodes (view e.1)) l + nodes (view t)) entries
      ∙ removed (λ v. nodes (view v)) x es t (sym is) ∙ sym (nodes-kept_by view es);
}

pub added_is : {V : Type 0} (view : V → Tree) (es es' : List (ℕ × V)) (x : ℕ) (t : V)
    → ((q : ℕ) → lookup (nat_eq q) es' ≡ cond (nat_eq x q) (Some t) (lookup (nat_eq q) es))
    → ((f : V → ℕ) → sum_by (λ e. f e.1) es' ≡ sum_by (λ e. f e.1) es + f t)
    → IsAdded (kept_by view es) (kept_by view es') x (view t)
added_is view es es' x t updates sums = record {
  there = λ q. look-kept_by view es' q ∙ ap (option_map view) (updates q) ∙ inward view (nat_eq x q) (Some t) (lookup (nat_eq q) es)
      ∙ ap (cond (nat_eq x q) (Some (view t))) (sym (look-kept_by view es q));
  held = λ y. held-kept_by view es' y ∙ sums (λ v. occurrences y (names (view v)))
      ∙ ap (λ n. n + occurrences y (names (view t))) (sym (held-kept_by view es y));
}

-- what isn't bound among the terms isn't bound among the places
pub not_there : {V : Type 0} (view : V → Tree) (es : List (ℕ × V)) (x : ℕ) → look (kept_by view es) x ≡ None → lookup (nat_eq x) es ≡ None
not_there view es x none = none_there view (lookup (nat_eq x) es) (sym (look-kept_by view es x) ∙ none)

none_of : {V : Type 0} (o : Option V) → is_some o ≡ false → o ≡ None
none_of None e = refl
none_of (Some t) e = absurd (true≢false e)

pub not_bound : {V : Type 0} (view : V → Tree) (es : List (ℕ × V)) (x : ℕ) (b : Bool) → b ≡ is_some (lookup (nat_eq x) es) → b ≡ false → look (kept_by view es) x ≡ None
not_bound view es x b is out = look-kept_by view es x ∙ ap (option_map view) (none_of (lookup (nat_eq x) es) (sym is ∙ out))

-- ---- one entry before the others

turned : (a b : ℕ) → nat_eq a b ≡ nat_eq b a
turned a b = grind (arith, nat_tests)

pub front : {V : Type 0} (x y : ℕ) (t : V) (es : List (ℕ × V)) → lookup (nat_eq y) ((x, t) ∷ es) ≡ cond (nat_eq x y) (Some t) (lookup (nat_eq y) es)
front x y t es = ap (λ b. cond b (Some t) (lookup (nat_eq y) es)) (turned y x)

-- the one in front goes to the others, and another comes in its place
module _ {V : Type 0} (o x : ℕ) (p t : V) (es es' : List (ℕ × V)) (apart : lookup (nat_eq o) es ≡ None) (fresh : lookup (nat_eq x) ((o, p) ∷ es) ≡ None)
    (updates : (q : ℕ) → lookup (nat_eq q) es' ≡ cond (nat_eq o q) (Some p) (lookup (nat_eq q) es)) (entries : es' ≡ insert_entry nat_cmp es o p) where
  pub next_apart : lookup (nat_eq x) es' ≡ None
  next_apart = updates x ∙ sym (front o x p es) ∙ fresh

  pub next_updates : (y : ℕ) → lookup (nat_eq y) ((x, t) ∷ es') ≡ cond (nat_eq x y) (Some t) (lookup (nat_eq y) ((o, p) ∷ es))
  next_updates y = front x y t es' ∙ ap (cond (nat_eq x y) (Some t)) (updates y ∙ sym (front o y p es))

  pub next_sums : (f : V → ℕ) → sum_by (λ e. f e.1) ((x, t) ∷ es') ≡ sum_by (λ e. f e.1) ((o, p) ∷ es) + f t
  next_sums f =
      let g : ℕ × V → ℕ = λ e. f e.1 in
      let moved : (a s b : ℕ) → a + (s + b) ≡ (b + s) + a = λ a s b. omega arith in
      sum_by-cons g (x, t) es' ∙ ap (λ n. f t + n) (ap (sum_by g) entries ∙ inserted f o es p apart) ∙ moved (f t) (sum_by g es) (f p)
      ∙ ap (λ n. n + f t) (sym (sum_by-cons g (o, p) es))

-- the one in front is taken out
pub taken_front : {V : Type 0} (o x : ℕ) (p : V) (es : List (ℕ × V)) → o ≡ x → lookup (nat_eq o) es ≡ None
    → (Some p ≡ lookup (nat_eq x) ((o, p) ∷ es)) × (es ≡ remove_entry (nat_eq x) ((o, p) ∷ es))
    × ((y : ℕ) → lookup (nat_eq y) es ≡ cond (nat_eq x y) None (lookup (nat_eq y) ((o, p) ∷ es)))
taken_front {V} o x p es is apart =
    let here : nat_eq x o ≡ true = eq-eqb x o (sym is) in
    let others : (y : ℕ) → lookup (nat_eq y) es ≡ cond (nat_eq o y) None (lookup (nat_eq y) ((o, p) ∷ es)) =
    λ y. elim (cases_Bool (nat_eq o y)) [
      | inl e ↦ ap (λ z. lookup (nat_eq z) es) (sym (eqb-true o y e)) ∙ apart ∙ sym (ap (λ b. cond b None (lookup (nat_eq y) ((o, p) ∷ es))) e)
      | inr e ↦ sym (ap (λ b. cond b None (lookup (nat_eq y) ((o, p) ∷ es))) e ∙ front o y p es ∙ ap (λ b. cond b (Some p) (lookup (nat_eq y) es)) e)
    ] in (
      sym (ap (λ b. cond b (Some p) (lookup (nat_eq x) es)) here),
      sym (ap (λ b. cond b es ((o, p) ∷ remove_entry (nat_eq x) es)) here),
      λ y. others y ∙ ap (λ z. cond (nat_eq z y) None (lookup (nat_eq y) ((o, p) ∷ es))) is,
    )

-- one of the others is taken out
module _ {V : Type 0} (o x : ℕ) (p : V) (es es' : List (ℕ × V)) (unlike : o ≡ x → ⊥) where
  here : nat_eq x o ≡ false
  here = elim (cases_Bool (nat_eq x o)) [
    | inl t ↦ absurd (unlike (sym (eqb-true x o t)))
    | inr f ↦ f
  ]

  pub other_value : lookup (nat_eq x) ((o, p) ∷ es) ≡ lookup (nat_eq x) es
  other_value = ap (λ b. cond b (Some p) (lookup (nat_eq x) es)) here

  module _ (updates : (q : ℕ) → lookup (nat_eq q) es' ≡ cond (nat_eq x q) None (lookup (nat_eq q) es)) where
    pub other_apart : lookup (nat_eq o) es ≡ None → lookup (nat_eq o) es' ≡ None
    other_apart apart = updates o ∙ ap (λ b. cond b None (lookup (nat_eq o) es)) here ∙ apart

    pub other_updates : (y : ℕ) → lookup (nat_eq y) ((o, p) ∷ es') ≡ cond (nat_eq x y) None (lookup (nat_eq y) ((o, p) ∷ es))
    other_updates y = elim (cases_Bool (nat_eq x y)) [
      | inl e ↦ let apart : nat_eq y o ≡ false = ap (λ z. nat_eq z o) (sym (eqb-true x y e)) ∙ here in
          ap (λ b. cond b (Some p) (lookup (nat_eq y) es')) apart ∙ updates y ∙ ap (λ b. cond b None (lookup (nat_eq y) es)) e
          ∙ sym (ap (λ b. cond b None (lookup (nat_eq y) ((o, p) ∷ es))) e)
      | inr e ↦ ap (cond (nat_eq y o) (Some p)) (updates y ∙ ap (λ b. cond b None (lookup (nat_eq y) es)) e)
          ∙ sym (ap (λ b. cond b None (lookup (nat_eq y) ((o, p) ∷ es))) e)
    ]

-- ---- no entries

pub none_in : {V : Type 0} (es : List (ℕ × V)) (x : ℕ) → es ≡ [] → (None ≡ lookup (nat_eq x) es)
    × ((y : ℕ) → lookup (nat_eq y) es ≡ cond (nat_eq x y) None (lookup (nat_eq y) es)) × (es ≡ remove_entry (nat_eq x) es)
none_in {V} es x none =
    (sym (ap (lookup (nat_eq x)) none), λ y. by (nat_eq x y) (lookup (nat_eq y) es) (ap (lookup (nat_eq y)) none), none ∙ sym (ap (remove_entry (nat_eq x)) none))
  where
    by : (b : Bool) (o : Option V) → o ≡ None → o ≡ cond b None o
    by true o e = e
    by false o e = refl
