-- How often names occur in a list, and in that of their new names.
use Rattle.std.proofs.Common.{◌≡◌, ℕ, ◌+◌, ◌≤◌, ◌==◌, Bool, true, false, cond, List, [], ◌∷◌, map, refl, sym, ap, subst, ◌∙◌, arith}
use Rattle.std.specs.Cmp.{unsigned_Decides}
use Rattle.std.proofs.lemmas.Bool.{eqb-true}
use Rattle.std.proofs.lemmas.List.Sums.{sum_by-append}
use Rattle.ic_term.specs.Configuration.{occurrences}
use Rattle.ic_rules.specs.lemmas.NumberingLaws.{Undone}

pub occurrences-cons : (q n : ℕ) (ns : List ℕ) → occurrences q (n ∷ ns) ≡ cond (n == q) 1 0 + occurrences q ns
occurrences-cons q n ns = sum_by-append (λ m. cond (m == q) 1 0) (n ∷ []) ns ∙ ap (λ k. k + occurrences q ns) (omega arith)

-- another name before a list changes nothing of how often a name occurs there
pub occurrences-other : (q n : ℕ) (ns : List ℕ) → (n == q) ≡ false → occurrences q (n ∷ ns) ≡ occurrences q ns
occurrences-other q n ns apart =
    occurrences-cons q n ns ∙ ap (λ (b : Bool). cond b 1 0 + occurrences q ns) apart ∙ omega arith

-- ---- names that are turned into others, and back

module _ (f back : ℕ → ℕ) where
  -- a new name that stands there is that of the name that it leads back to
  pub led_back : (q : ℕ) (ns : List ℕ) → Undone f back ns → 1 ≤ occurrences q (map f ns) → f (back q) ≡ q
  led_back q [] undone there = absurd (omega (arith, there))
  led_back q (n ∷ ns) undone there = by_test (f n == q) refl (led_back q ns undone.1)
    where
      by_test : (b : Bool) → (f n == q) ≡ b → (1 ≤ occurrences q (map f ns) → f (back q) ≡ q) → f (back q) ≡ q
      by_test true is later =
          let here : f n ≡ q = eqb-true (f n) q is in
          let same : back q ≡ n = sym (ap back here) ∙ undone.0 in
          ap f same ∙ here
      by_test false is later =
          later (omega (arith, there, occurrences-other q (f n) (map f ns) is))

  -- a name that stands there is undone
  pub undone_in : (q : ℕ) (ns : List ℕ) → Undone f back ns → 1 ≤ occurrences q ns → back (f q) ≡ q
  undone_in q [] undone there = absurd (omega (arith, there))
  undone_in q (n ∷ ns) undone there = by_test (n == q) refl (undone_in q ns undone.1)
    where
      by_test : (b : Bool) → (n == q) ≡ b → (1 ≤ occurrences q ns → back (f q) ≡ q) → back (f q) ≡ q
      by_test true is later = let same : n ≡ q = eqb-true n q is in subst (λ (m : ℕ). back (f m) ≡ m) same undone.0
      by_test false is later =
          later (omega (arith, there, occurrences-other q n ns is))

  -- no name occurs more often than before
  pub no_more : (q : ℕ) (ns : List ℕ) → Undone f back ns → occurrences q (map f ns) ≤ occurrences (back q) ns
  no_more q [] undone = omega arith
  no_more q (n ∷ ns) undone =
      omega (arith, occurrences-cons q (f n) (map f ns), occurrences-cons (back q) n ns, one_more (f n == q) (n == back q) same, no_more q ns undone.1)
    where
      same : (f n == q) ≡ true → (n == back q) ≡ true
      same e = (unsigned_Decides n (back q)).1 (sym undone.0 ∙ ap back ((unsigned_Decides (f n) q).0 e))

      one_more : (a b : Bool) → (a ≡ true → b ≡ true) → cond a 1 0 ≤ cond b 1 0
      one_more true b to = rw (to refl) (omega arith)
      one_more false true to = omega arith
      one_more false false to = omega arith
