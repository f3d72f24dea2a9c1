-- Places of names, and those of one name more.
use Rattle.std.proofs.Common.{◌≡◌, ℕ, suc, ◌+◌, ◌==◌, ◌||◌, Bool, true, false, not, cond, List, [], ◌∷◌, ◌++◌, Option, None, Some, option_map, is_some, length, nat_lt, refl, sym, ap, ◌∙◌, arith}
use Rattle.std.specs.List.{position, prefix_len, list_any}
use Rattle.std.specs.Ordering.{nat_cmp, is_eq}
use Rattle.std.specs.BTreeMap.{BTreeMap, get, Updates}
use Rattle.std.proofs.lemmas.Bool.{eqb-true}
use Rattle.std.proofs.lemmas.Bool.Decides.{nat_tests}
use Rattle.std.proofs.lemmas.Grind.{common_steps}

position-cons : (p : ℕ → Bool) (x : ℕ) (xs : List ℕ) → position p (x ∷ xs) ≡ cond (p x) (Some 0) (option_map suc (position p xs))
position-cons p x xs = by (p x) (prefix_len (λ y. not (p y)) xs) (length xs)
  where
    by : (b : Bool) (n m : ℕ) → cond (nat_lt (cond (not b) (1 + n) 0) (suc m)) (Some (cond (not b) (1 + n) 0)) None
        ≡ cond b (Some 0) (option_map suc (cond (nat_lt n m) (Some n) None))
    by true n m = grind (arith, common_steps)
    by false n m = grind (arith, common_steps)

-- a name has a place where it is among them
any_position : (p : ℕ → Bool) (xs : List ℕ) → list_any p xs ≡ is_some (position p xs)
any_position p [] = refl
any_position p (x ∷ xs) = ap (λ b. p x || b) (any_position p xs) ∙ by (p x) (position p xs) ∙ ap is_some (sym (position-cons p x xs))
  where
    by : (b : Bool) (o : Option ℕ) → (b || is_some o) ≡ is_some (cond b (Some 0) (option_map suc o))
    by true o = refl
    by false None = refl
    by false (Some n) = refl

abbrev or_last : Option ℕ → Bool → ℕ → Option ℕ
or_last None b n = cond b (Some n) None
or_last (Some m) b n = Some m

position-push : (p : ℕ → Bool) (xs : List ℕ) (y : ℕ) → position p (xs ++ y ∷ []) ≡ or_last (position p xs) (p y) (length xs)
position-push p [] y = position-cons p y []
position-push p (x ∷ xs) y =
    position-cons p x (xs ++ y ∷ []) ∙ ap (λ o. cond (p x) (Some 0) (option_map suc o)) (position-push p xs y)
    ∙ by (p x) (position p xs) (p y) ∙ ap (λ o. or_last o (p y) (suc (length xs))) (sym (position-cons p x xs))
  where
    by : (a : Bool) (o : Option ℕ) (b : Bool) → cond a (Some 0) (option_map suc (or_last o b (length xs))) ≡ or_last (cond a (Some 0) (option_map suc o)) b (suc (length xs))
    by true o b = refl
    by false None true = refl
    by false None false = refl
    by false (Some n) b = refl

abbrev pub Tells : BTreeMap ℕ ℕ → List ℕ → Type 0
Tells places names = (n : ℕ) → get nat_cmp places n ≡ position (λ m. n == m) names

-- what the map says of a name is whether it is among them
pub told_any : (places : BTreeMap ℕ ℕ) (names : List ℕ) (name : ℕ) (b : Bool) → Tells places names → b ≡ is_some (get nat_cmp places name) → list_any (λ m. name == m) names ≡ b
told_any places names name b tells is = any_position (λ m. name == m) names ∙ ap is_some (sym (tells name)) ∙ sym is

same_test : (a b : ℕ) → is_eq (nat_cmp a b) ≡ (b == a)
same_test a b = grind (arith, nat_tests)

absent_none : (o : Option ℕ) → is_some o ≡ false → o ≡ None
absent_none None e = refl
absent_none (Some n) e = cc

-- one name more
pub told_push : (old new : BTreeMap ℕ ℕ) (names : List ℕ) (name : ℕ) → Tells old names → list_any (λ m. name == m) names ≡ false
    → Updates nat_cmp old new name (Some (length names)) → Tells new (names ++ name ∷ [])
told_push old new names name tells absent updates = λ n.
    updates.0 n ∙ (λ i. cond (same_test name n i) (Some (length names)) (tells n i)) ∙ by n (n == name) refl ∙ sym (position-push (λ m. n == m) names name)
  where
    none : position (λ m. name == m) names ≡ None
    none = absent_none (position (λ m. name == m) names) (sym (any_position (λ m. name == m) names) ∙ absent)

    by : (n : ℕ) (b : Bool) → (n == name) ≡ b → cond b (Some (length names)) (position (λ m. n == m) names) ≡ or_last (position (λ m. n == m) names) b (length names)
    by n true e = ap (λ o. or_last o true (length names)) (sym (ap (λ k. position (λ m. k == m) names) (eqb-true n name e) ∙ none))
    by n false e = left (position (λ m. n == m) names)
      where
        left : (o : Option ℕ) → o ≡ or_last o false (length names)
        left None = refl
        left (Some k) = refl
