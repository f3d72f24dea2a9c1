-- The marks at names that occur once, a name more.
use Rattle.std.proofs.Common.{◌≡◌, ◌⊎◌, ℕ, ◌+◌, ◌≤◌, ◌<◌, ◌==◌, List, [], ◌∷◌, ◌++◌, Bool, true, false, Option, None, Some, length, take, get_or, cond, refl, ap, sym, ◌∙◌, arith, inl, inr}
use Rattle.std.specs.Prelude.{unwrap_or}
use Rattle.std.proofs.lemmas.Bool.{cases_eq, eq-eqb, ne_eqb}
use Rattle.std.proofs.lemmas.List.{length-append, get_or_append_left, get_or_past}
use Rattle.std.proofs.lemmas.List.Sums.{count_by_more_yes, count_by_more_no}
use Rattle.std.proofs.lemmas.Option.{none-some, same_Some}
use Rattle.std.proofs.Math.Seq.{get_or-append_seam}
use Rattle.ic_term.specs.Configuration.{occurrences}

-- Each of the names so far has a place, with a mark where it occurs once among them.
pub record AreMarksSoFar (names : List ℕ) (next : ℕ) (place : ℕ → Option ℕ) (single : List Bool) : Type 0 where
  pub below : (x r : ℕ) → place x ≡ Some r → r < length single
  pub apart : (x y r : ℕ) → place x ≡ Some r → place y ≡ Some r → x ≡ y
  pub none : (x : ℕ) → place x ≡ None → occurrences x (take next names) ≡ 0
  pub some : (x r : ℕ) → place x ≡ Some r → 1 ≤ occurrences x (take next names)
  pub once : (x r : ℕ) → place x ≡ Some r → get_or single r false ≡ (occurrences x (take next names) == 1)

module _ (names : List ℕ) (i : ℕ) (within : i < length names) where
  more_same : (x : ℕ) → get_or names i 0 ≡ x → occurrences x (take (i + 1) names) ≡ occurrences x (take i names) + 1
  more_same x e = count_by_more_yes (λ m. m == x) names i 0 within (eq-eqb (get_or names i 0) x e)

  more_other : (x : ℕ) → (get_or names i 0 ≡ x → ⊥) → occurrences x (take (i + 1) names) ≡ occurrences x (take i names)
  more_other x e = count_by_more_no (λ m. m == x) names i 0 within (ne_eqb (get_or names i 0) x e)

  -- a name that has a place already
  pub mark_again : (r : ℕ) (place : ℕ → Option ℕ) (single after : List Bool) → place (get_or names i 0) ≡ Some r → length after ≡ length single
      → ((j : ℕ) → get_or after j false ≡ cond (r == j) false (get_or single j false))
      → AreMarksSoFar names i place single → AreMarksSoFar names (i + 1) place after
  mark_again r place single after here len each so_far = record {
    below = λ x k at. omega (arith, so_far.below x k at, len);
    apart = so_far.apart;
    none = λ x free. more_other x (λ e. none-some r (sym free ∙ ap place (sym e) ∙ here)) ∙ so_far.none x free;
    some = λ x k at. some_at x k at (cases_eq (get_or names i 0) x);
    once = λ x k at. once_at x k at (cases_eq (get_or names i 0) x);
  }
    where
      some_at : (x k : ℕ) → place x ≡ Some k → (get_or names i 0 ≡ x) ⊎ (get_or names i 0 ≡ x → ⊥) → 1 ≤ occurrences x (take (i + 1) names)
      some_at x k at (inl e) = omega (arith, more_same x e)
      some_at x k at (inr e) = omega (arith, more_other x e, so_far.some x k at)

      once_at : (x k : ℕ) → place x ≡ Some k → (get_or names i 0 ≡ x) ⊎ (get_or names i 0 ≡ x → ⊥)
          → get_or after k false ≡ (occurrences x (take (i + 1) names) == 1)
      once_at x k at (inl e) =
          let here_is : r ≡ k = same_Some r k (sym here ∙ ap place e ∙ at) in
          let before = so_far.some x k at in
          let more = more_same x e in
          each k ∙ ap (λ b. cond b false (get_or single k false)) (eq-eqb r k here_is)
          ∙ sym (ne_eqb (occurrences x (take (i + 1) names)) 1 (λ s. omega arith))
      once_at x k at (inr e) =
          let other : r ≡ k → ⊥ = λ same. e (so_far.apart (get_or names i 0) x k (here ∙ ap Some same) at) in
          each k ∙ ap (λ b. cond b false (get_or single k false)) (ne_eqb r k other) ∙ so_far.once x k at
          ∙ ap (λ t. t == 1) (sym (more_other x e))

  -- a name that gets the next place
  pub mark_new : (m : ℕ) (old new : ℕ → Option ℕ) (single : List Bool) → old (get_or names i 0) ≡ None → m ≡ length single
      → ((x : ℕ) → new x ≡ cond (get_or names i 0 == x) (Some m) (old x))
      → AreMarksSoFar names i old single → AreMarksSoFar names (i + 1) new (single ++ true ∷ [])
  mark_new m old new single absent last updated so_far = record {
    below = λ x k at. below_at x k at (cases_eq (get_or names i 0) x);
    apart = λ x y k a b. apart_at x y k a b (cases_eq (get_or names i 0) x) (cases_eq (get_or names i 0) y);
    none = λ x free. none_at x free (cases_eq (get_or names i 0) x);
    some = λ x k at. some_at x k at (cases_eq (get_or names i 0) x);
    once = λ x k at. once_at x k at (cases_eq (get_or names i 0) x);
  }
    where
      same : (x : ℕ) → get_or names i 0 ≡ x → new x ≡ Some m
      same x e = updated x ∙ ap (λ b. cond b (Some m) (old x)) (eq-eqb (get_or names i 0) x e)

      other : (x : ℕ) → (get_or names i 0 ≡ x → ⊥) → new x ≡ old x
      other x e = updated x ∙ ap (λ b. cond b (Some m) (old x)) (ne_eqb (get_or names i 0) x e)

      longer : length (single ++ true ∷ []) ≡ length single + 1
      longer = length-append single (true ∷ [])

      not_last : (x k : ℕ) → m ≡ k → old x ≡ Some k → ⊥
      not_last x k here at = omega (arith, so_far.below x k at, here, last)

      below_at : (x k : ℕ) → new x ≡ Some k → (get_or names i 0 ≡ x) ⊎ (get_or names i 0 ≡ x → ⊥) → k < length (single ++ true ∷ [])
      below_at x k at (inl e) = omega (arith, same_Some m k (sym (same x e) ∙ at), last, longer)
      below_at x k at (inr e) = omega (arith, so_far.below x k (sym (other x e) ∙ at), longer)

      apart_at : (x y k : ℕ) → new x ≡ Some k → new y ≡ Some k → (get_or names i 0 ≡ x) ⊎ (get_or names i 0 ≡ x → ⊥)
          → (get_or names i 0 ≡ y) ⊎ (get_or names i 0 ≡ y → ⊥) → x ≡ y
      apart_at x y k a b (inl e) (inl f) = sym e ∙ f
      apart_at x y k a b (inl e) (inr f) = absurd (not_last y k (same_Some m k (sym (same x e) ∙ a)) (sym (other y f) ∙ b))
      apart_at x y k a b (inr e) (inl f) = absurd (not_last x k (same_Some m k (sym (same y f) ∙ b)) (sym (other x e) ∙ a))
      apart_at x y k a b (inr e) (inr f) = so_far.apart x y k (sym (other x e) ∙ a) (sym (other y f) ∙ b)

      none_at : (x : ℕ) → new x ≡ None → (get_or names i 0 ≡ x) ⊎ (get_or names i 0 ≡ x → ⊥) → occurrences x (take (i + 1) names) ≡ 0
      none_at x free (inl e) = absurd (none-some m (sym free ∙ same x e))
      none_at x free (inr e) = more_other x e ∙ so_far.none x (sym (other x e) ∙ free)

      some_at : (x k : ℕ) → new x ≡ Some k → (get_or names i 0 ≡ x) ⊎ (get_or names i 0 ≡ x → ⊥) → 1 ≤ occurrences x (take (i + 1) names)
      some_at x k at (inl e) = omega (arith, more_same x e)
      some_at x k at (inr e) = omega (arith, more_other x e, so_far.some x k (sym (other x e) ∙ at))

      once_at : (x k : ℕ) → new x ≡ Some k → (get_or names i 0 ≡ x) ⊎ (get_or names i 0 ≡ x → ⊥)
          → get_or (single ++ true ∷ []) k false ≡ (occurrences x (take (i + 1) names) == 1)
      once_at x k at (inl e) =
          let here : k ≡ length single = omega (arith, same_Some m k (sym (same x e) ∙ at), last) in
          let before : occurrences x (take i names) ≡ 0 = so_far.none x (ap old (sym e) ∙ absent) in
          let one : occurrences x (take (i + 1) names) ≡ 1 = omega (arith, more_same x e, before) in
          ap (λ j. get_or (single ++ true ∷ []) j false) here ∙ get_or-append_seam single true [] false
          ∙ sym (eq-eqb (occurrences x (take (i + 1) names)) 1 one)
      once_at x k at (inr e) =
          let was = sym (other x e) ∙ at in
          get_or_append_left single (true ∷ []) false k (so_far.below x k was) ∙ so_far.once x k was
          ∙ ap (λ t. t == 1) (sym (more_other x e))

pub marks_none : (names : List ℕ) (place : ℕ → Option ℕ) → ((x : ℕ) → place x ≡ None) → AreMarksSoFar names 0 place []
marks_none names place none = record {
  below = λ x r at. absurd (none-some r (sym (none x) ∙ at));
  apart = λ x y r a b. absurd (none-some r (sym (none x) ∙ a));
  none = λ x free. refl;
  some = λ x r at. absurd (none-some r (sym (none x) ∙ at));
  once = λ x r at. absurd (none-some r (sym (none x) ∙ at));
}

pub marks_all : (names : List ℕ) (i last : ℕ) (place : ℕ → Option ℕ) (single : List Bool) → take i names ≡ names → last ≡ length single
    → AreMarksSoFar names i place single → (x : ℕ) → get_or single (unwrap_or (place x) last) false ≡ (occurrences x names == 1)
marks_all names i last place single whole long so_far x = at (place x) refl ∙ ap (λ l. occurrences x l == 1) whole
  where
    at : (o : Option ℕ) → place x ≡ o → get_or single (unwrap_or o last) false ≡ (occurrences x (take i names) == 1)
    at None free = get_or_past single last false (omega (arith, long)) ∙ sym (ap (λ t. t == 1) (so_far.none x free))
    at (Some r) there = so_far.once x r there
