-- How the rules that a text gives are found by the places of their symbols.
use Rattle.std.proofs.Common.{◌≡◌, ℕ, suc, ◌<◌, ◌==◌, ◌&&◌, ◌||◌, Bool, true, false, cond, List, [], ◌∷◌, Option, None, Some, option_map, unwrap_or, get_or, length, refl, sym, ap, ◌∙◌, subst, arith}
use Rattle.std.specs.List.{list_any, position}
use Rattle.std.specs.Str.{bytes_eq}
use Rattle.std.specs.Cmp.Lexicographic.{bytes_decides}
use Rattle.std.specs.BTreeSet.{BTreeSet, contains}
use Rattle.std.specs.Cmp.{unsigned_Decides}
use Rattle.std.proofs.lemmas.Bool.{eqb-true}
use Rattle.ic_expand.specs.Generic.{is_of}
use Rattle.ic_expand.specs.inner.Given.{AreGiven, has_place, is_at, place_cmp}
use Rattle.ic_expand.proofs.Placed.{position-cons}

-- ---- the word at a place

pub passes : {X : Type 0} (p : X → Bool) (xs : List X) (i : ℕ) (d : X) → position p xs ≡ Some i → p (get_or xs i d) ≡ true
passes p [] i d e = let z : None ≡ Some i = e in cc
passes p (x ∷ xs) i d e = by (p x) refl (position p xs) refl (sym (position-cons p x xs) ∙ e) (λ k at. passes p xs k d at)
  where
    by : (b : Bool) → p x ≡ b → (o : Option ℕ) → position p xs ≡ o → cond b (Some 0) (option_map suc o) ≡ Some i
        → ((k : ℕ) → position p xs ≡ Some k → p (get_or xs k d) ≡ true) → p (get_or (x ∷ xs) i d) ≡ true
    by true is o at at_i later = subst (λ k. p (get_or (x ∷ xs) k d) ≡ true) (ap (λ o. unwrap_or o 0) at_i) is
    by false is None at at_i later = let z : None ≡ Some i = at_i in cc
    by false is (Some k) at at_i later = subst (λ m. p (get_or (x ∷ xs) m d) ≡ true) (ap (λ o. unwrap_or o 0) at_i) (later k at)

-- words of one place are one word
one_word : (known : List (List ℕ)) (v w : List ℕ) (i : ℕ) → position (bytes_eq v) known ≡ Some i → position (bytes_eq w) known ≡ Some i → v ≡ w
one_word known v w i at_v at_w =
    (bytes_decides v (get_or known i [])).0 (passes (bytes_eq v) known i [] at_v) ∙ sym ((bytes_decides w (get_or known i [])).0 (passes (bytes_eq w) known i [] at_w))

same_place : (known : List (List ℕ)) (v w : List ℕ) (i : ℕ) → position (bytes_eq v) known ≡ Some i → has_place i (position (bytes_eq w) known) ≡ bytes_eq v w
same_place known v w i at_v = by (bytes_eq v w) refl (position (bytes_eq w) known) refl
  where
    apart : (k : ℕ) → bytes_eq v w ≡ false → position (bytes_eq w) known ≡ Some k → (t : Bool) → (i == k) ≡ t → t ≡ false
    apart k differ at_w true e =
        let z = (bytes_decides v w).1 (one_word known v w k (at_v ∙ ap (λ n. Some n) (eqb-true i k e)) at_w) in
        let y = sym z ∙ differ in cc
    apart k differ at_w false e = refl

    by : (b : Bool) → bytes_eq v w ≡ b → (o : Option ℕ) → position (bytes_eq w) known ≡ o → has_place i o ≡ b
    by true is o at_w =
        let here : o ≡ Some i = sym at_w ∙ sym (ap (λ u. position (bytes_eq u) known) ((bytes_decides v w).0 is)) ∙ at_v in
        ap (has_place i) here ∙ (unsigned_Decides i i).1 refl
    by false is None at_w = refl
    by false is (Some k) at_w = apart k is at_w (i == k) refl

-- ---- a rule of two symbols, whichever stands first

any_or : {X : Type 0} (p q : X → Bool) (xs : List X) → (list_any p xs || list_any q xs) ≡ list_any (λ x. p x || q x) xs
any_or p q [] = refl
any_or p q (x ∷ xs) = by (p x) (q x) (list_any p xs) (list_any q xs) ∙ ap (λ b. (p x || q x) || b) (any_or p q xs)
  where
    by : (a b c d : Bool) → ((a || c) || (b || d)) ≡ ((a || b) || (c || d))
    by true b c d = refl
    by false true true d = refl
    by false true false d = refl
    by false false c d = refl

any_same : {X : Type 0} (p q : X → Bool) → ((x : X) → p x ≡ q x) → (xs : List X) → list_any p xs ≡ list_any q xs
any_same p q same [] = refl
any_same p q same (x ∷ xs) = (λ i. same x i || any_same p q same xs i)

swapped : (a b : Bool) → (a && b) ≡ (b && a)
swapped true true = refl
swapped true false = refl
swapped false true = refl
swapped false false = refl

-- a rule of two symbols is given where their places are there in either order
pub given_is : (given : BTreeSet (ℕ × ℕ)) (known : List (List ℕ)) (pairs : List (List ℕ × List ℕ)) (s t : List ℕ) (i j : ℕ) → AreGiven given known pairs
    → position (bytes_eq s) known ≡ Some i → position (bytes_eq t) known ≡ Some j
    → (contains place_cmp given (i, j) || contains place_cmp given (j, i)) ≡ list_any (is_of s t) pairs
given_is given known pairs s t i j are at_s at_t =
    (λ k. are i j k || are j i k) ∙ any_or (is_at known i j) (is_at known j i) pairs ∙ any_same (λ pair. is_at known i j pair || is_at known j i pair) (is_of s t) one pairs
  where
    one : (pair : List ℕ × List ℕ) → (is_at known i j pair || is_at known j i pair) ≡ is_of s t pair
    one pair =
        (λ k. (same_place known s pair.0 i at_s k && same_place known t pair.1 j at_t k) || (same_place known t pair.0 j at_t k && same_place known s pair.1 i at_s k))
        ∙ ap (λ b. (bytes_eq s pair.0 && bytes_eq t pair.1) || b) (swapped (bytes_eq t pair.0) (bytes_eq s pair.1))

-- ---- one rule more

pub head_noted : (c d x r : Bool) → d ≡ (x || c) → (d || r) ≡ (c || (x || r))
head_noted true d true r is = ap (λ b. b || r) is
head_noted true d false r is = ap (λ b. b || r) is
head_noted false d true r is = ap (λ b. b || r) is
head_noted false d false r is = ap (λ b. b || r) is

-- ---- a place is within the list

pub within : {X : Type 0} (p : X → Bool) (xs : List X) (i : ℕ) → position p xs ≡ Some i → i < length xs
within p [] i e = let z : None ≡ Some i = e in cc
within p (x ∷ xs) i e = by (p x) (position p xs) refl (sym (position-cons p x xs) ∙ e) (λ k at. within p xs k at)
  where
    by : (b : Bool) (o : Option ℕ) → position p xs ≡ o → cond b (Some 0) (option_map suc o) ≡ Some i → ((k : ℕ) → position p xs ≡ Some k → k < length xs) → i < suc (length xs)
    by true o at at_i later = let z : 0 ≡ i = ap (λ o. unwrap_or o 0) at_i in omega (arith, z)
    by false None at at_i later = let z : None ≡ Some i = at_i in cc
    by false (Some k) at at_i later = let z : suc k ≡ i = ap (λ o. unwrap_or o 0) at_i in omega (arith, z, later k at)
