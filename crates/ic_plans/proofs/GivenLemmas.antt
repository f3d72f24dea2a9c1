-- The registers of the names of a configuration: a word more.
use Rattle.std.proofs.Common.{◌≡◌, ◌⊎◌, ℕ, zero, suc, ◌+◌, ◌≤◌, ◌==◌, List, [], ◌∷◌, ◌++◌, Bool, true, false, cond, Option, None, Some, length, slice_get, refl, sym, ap, ◌∙◌, arith, inl, inr}
use Rattle.std.proofs.lemmas.Option.{none-some, same_Some}
use Rattle.std.specs.Cmp.{unsigned_Decides}
use Rattle.ic_term.specs.Configuration.{occurrences}
use Rattle.ic_plans.specs.inner.Given.{AreFresh, Numbers, number_in}
use Rattle.ic_plans.proofs.FlatLemmas.{count-append, count-cons, count-other, count-same}
use Rattle.ic_plans.proofs.RegisterLemmas.{there_front, there_last}
use Rattle.ic_plans.proofs.RuleLemmas.{not_same}

-- ---- lists

-- what stands in a list with an element more stands there before, or is that element
pub there_more : (xs : List ℕ) (n j x : ℕ) → slice_get (xs ++ n ∷ []) j ≡ Some x → (slice_get xs j ≡ Some x) ⊎ ((n ≡ x) × (j ≡ length xs))
there_more [] n zero x there = inr (same_Some n x there, refl)
there_more [] n (suc j) x there = absurd (none-some x there)
there_more (y ∷ xs) n zero x there = inl there
there_more (y ∷ xs) n (suc j) x there = at (there_more xs n j x there)
  where
    at : (slice_get xs j ≡ Some x) ⊎ ((n ≡ x) × (j ≡ length xs)) → (slice_get xs j ≡ Some x) ⊎ ((n ≡ x) × (suc j ≡ length (y ∷ xs)))
    at (inl p) = inl p
    at (inr q) = inr (q.0, ap suc q.1)

pub occurrences-more : (x : ℕ) (ns : List ℕ) (n : ℕ) → occurrences x (ns ++ n ∷ []) ≡ occurrences x ns + cond (n == x) 1 0
occurrences-more x ns n =
    let parts = count-append x ns (n ∷ []) in
    let one = count-cons x n [] in
    omega arith

-- ---- a register more

module _ (n r : ℕ) (old new : Numbers) (updated : (q : ℕ) → number_in new q ≡ cond (n == q) (Some r) (number_in old q)) where
  -- it is the new one, or was there before
  pub found-which : (x s : ℕ) → number_in new x ≡ Some s → ((n ≡ x) × (r ≡ s)) ⊎ (number_in old x ≡ Some s)
  found-which x s there = at (n == x) refl
    where
      at : (b : Bool) → (n == x) ≡ b → ((n ≡ x) × (r ≡ s)) ⊎ (number_in old x ≡ Some s)
      at true e = inl ((unsigned_Decides n x).0 e, same_Some r s (sym (updated x ∙ ap (λ b. cond b (Some r) (number_in old x)) e) ∙ there))
      at false e = inr (sym (updated x ∙ ap (λ b. cond b (Some r) (number_in old x)) e) ∙ there)

  pub found-new : (x : ℕ) → n ≡ x → number_in new x ≡ Some r
  found-new x same = updated x ∙ ap (λ b. cond b (Some r) (number_in old x)) ((unsigned_Decides n x).1 same)

  pub found-kept : number_in old n ≡ None → (x s : ℕ) → number_in old x ≡ Some s → number_in new x ≡ Some s
  found-kept none x s there = at (n == x) refl
    where
      at : (b : Bool) → (n == x) ≡ b → number_in new x ≡ Some s
      at true e = absurd (none-some s (sym none ∙ ap (number_in old) ((unsigned_Decides n x).0 e) ∙ there))
      at false e = updated x ∙ ap (λ b. cond b (Some r) (number_in old x)) e ∙ there

-- ---- names that had no register

-- a name more that has a register
pub fresh-kept : (before : List ℕ) (start : ℕ) (names : List ℕ) (old new : Numbers) (n s : ℕ) → number_in new n ≡ Some s
    → AreFresh before start names old new → AreFresh (before ++ n ∷ []) start names old new
fresh-kept before start names old new n s here fresh = record {
  others = λ x. (
    (λ w. at x (n == x) refl w.0 w.1),
    (λ w. let before_it = (fresh.others x).1 w in let one = occurrences-more x before n in (before_it.0, omega (arith, before_it.1, one))),
  );
  registers_are = fresh.registers_are;
}
  where
    listed : (x : ℕ) → n ≡ x → number_in old x ≡ None → (number_in old n ≡ Some s) ⊎ ((j : ℕ) × (slice_get names j ≡ Some n) × (s ≡ start + j)) → (j : ℕ) × (slice_get names j ≡ Some x)
    listed x same none (inl p) = absurd (none-some s (sym none ∙ ap (number_in old) (sym same) ∙ p))
    listed x same none (inr q) = (q.0, q.1 ∙ ap Some same)

    at : (x : ℕ) (b : Bool) → (n == x) ≡ b → number_in old x ≡ None → 1 ≤ occurrences x (before ++ n ∷ []) → (j : ℕ) × (slice_get names j ≡ Some x)
    at x true e none some = listed x ((unsigned_Decides n x).0 e) none ((fresh.registers_are n s).0 here)
    at x false e none some =
        let one = occurrences-more x before n in
        let other = count-other n x (not_same n x e) in
        (fresh.others x).0 (none, omega arith)

-- a name more that has none, and its register
pub fresh-more : (before : List ℕ) (start : ℕ) (names : List ℕ) (old mid new : Numbers) (n m : ℕ) → number_in mid n ≡ None
    → m ≡ start + length names → ((q : ℕ) → number_in new q ≡ cond (n == q) (Some m) (number_in mid q))
    → AreFresh before start names old mid → AreFresh (before ++ n ∷ []) start (names ++ n ∷ []) old new
fresh-more before start names old mid new n m none place_is updated fresh = record {
  others = λ x. ((λ w. listed x (n == x) refl w.0 w.1), (λ w. at x w.0 (there_more names n w.0 x w.1)));
  registers_are = λ x r. ((λ there. place x r (found-which n m mid new updated x r there)), (λ w. back x r w));
}
  where
    none_old : number_in old n ≡ None
    none_old = by (number_in old n) refl
      where
        by : (o : Option ℕ) → number_in old n ≡ o → o ≡ None
        by None e = refl
        by (Some s) e = absurd (none-some s (sym none ∙ (fresh.registers_are n s).1 (inl e)))

    listed : (x : ℕ) (b : Bool) → (n == x) ≡ b → number_in old x ≡ None → 1 ≤ occurrences x (before ++ n ∷ []) → (j : ℕ) × (slice_get (names ++ n ∷ []) j ≡ Some x)
    listed x true e absent some = (length names, there_last names n ∙ ap Some ((unsigned_Decides n x).0 e))
    listed x false e absent some =
        let one = occurrences-more x before n in
        let other = count-other n x (not_same n x e) in
        let w = (fresh.others x).0 (absent, omega arith) in
        (w.0, there_front names (n ∷ []) w.0 x w.1)

    at : (x j : ℕ) → (slice_get names j ≡ Some x) ⊎ ((n ≡ x) × (j ≡ length names)) → (number_in old x ≡ None) × (1 ≤ occurrences x (before ++ n ∷ []))
    at x j (inl p) =
        let w = (fresh.others x).1 (j, p) in
        let one = occurrences-more x before n in
        (w.0, omega (arith, w.1, one))
    at x j (inr q) =
        let one = occurrences-more x before n in
        let same = count-same n x q.0 in
        (ap (number_in old) (sym q.0) ∙ none_old, omega arith)

    place : (x r : ℕ) → ((n ≡ x) × (m ≡ r)) ⊎ (number_in mid x ≡ Some r)
        → (number_in old x ≡ Some r) ⊎ ((j : ℕ) × (slice_get (names ++ n ∷ []) j ≡ Some x) × (r ≡ start + j))
    place x r (inl p) = inr (length names, there_last names n ∙ ap Some p.0, sym p.1 ∙ place_is)
    place x r (inr q) = by ((fresh.registers_are x r).0 q)
      where
        by : (number_in old x ≡ Some r) ⊎ ((j : ℕ) × (slice_get names j ≡ Some x) × (r ≡ start + j))
            → (number_in old x ≡ Some r) ⊎ ((j : ℕ) × (slice_get (names ++ n ∷ []) j ≡ Some x) × (r ≡ start + j))
        by (inl p) = inl p
        by (inr w) = inr (w.0, there_front names (n ∷ []) w.0 x w.1, w.2)

    kept : (x r : ℕ) → number_in mid x ≡ Some r → number_in new x ≡ Some r
    kept x r there = found-kept n m mid new updated none x r there

    back : (x r : ℕ) → (number_in old x ≡ Some r) ⊎ ((j : ℕ) × (slice_get (names ++ n ∷ []) j ≡ Some x) × (r ≡ start + j)) → number_in new x ≡ Some r
    back x r (inl p) = kept x r ((fresh.registers_are x r).1 (inl p))
    back x r (inr w) = by (there_more names n w.0 x w.1)
      where
        by : (slice_get names w.0 ≡ Some x) ⊎ ((n ≡ x) × (w.0 ≡ length names)) → number_in new x ≡ Some r
        by (inl p) = kept x r ((fresh.registers_are x r).1 (inr (w.0, p, w.2)))
        by (inr q) = found-new n m mid new updated x q.0 ∙ ap Some (place_is ∙ sym (w.2 ∙ ap (λ k. start + k) q.1))
