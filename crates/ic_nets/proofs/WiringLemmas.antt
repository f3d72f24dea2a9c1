-- Wires of names in a list, with the place of each.
use Rattle.std.proofs.Common.{◌≡◌, ℕ, suc, ◌<◌, ◌==◌, List, [], ◌∷◌, ◌++◌, Bool, true, false, cond, Option, None, Some, option_map, length, get_or, refl, sym, ap, ◌∙◌, arith}
use Rattle.std.proofs.Math.ListN.{set}
use Rattle.std.proofs.lemmas.Bool.{eqb-true}
use Rattle.std.proofs.lemmas.Bool.Decides.{nat_tests}
use Rattle.std.specs.Ordering.{nat_cmp, is_eq}
use Rattle.ic_nets.specs.Nets.{wire_of, with_standing}
use Rattle.ic_nets.specs.inner.Named.{place_of}
use Rattle.ic_nets.specs.declared.net.Wire.{Wire}
use Rattle.ic_nets.specs.declared.links.Standing.{Standing}

-- the tree's test of a name is equality
pub is_same : (a b : ℕ) → is_eq (nat_cmp a b) ≡ (a == b)
is_same a b = grind (arith, nat_tests)

turned : (a b : ℕ) → (a == b) ≡ (b == a)
turned a b = grind (arith, nat_tests)

-- ---- a name that has no wire

-- its wire goes last
pub stood_new : (es : List (ℕ × Wire)) (s : Standing) → place_of s.name es ≡ None → with_standing es s ≡ es ++ (s.name, wire_of None s) ∷ []
stood_new [] s none = refl
stood_new (e ∷ es) s none = by (s.name == e.0) none (stood_new es s)
  where
    after : (o : Option ℕ) → option_map suc o ≡ None → o ≡ None
    after None p = refl
    after (Some k) p = cc

    by : (b : Bool) → cond b (Some 0) (option_map suc (place_of s.name es)) ≡ None
        → (place_of s.name es ≡ None → with_standing es s ≡ es ++ (s.name, wire_of None s) ∷ [])
        → cond b ((e.0, wire_of (Some e.1) s) ∷ es) (e ∷ with_standing es s) ≡ e ∷ (es ++ (s.name, wire_of None s) ∷ [])
    by true p rest = cc
    by false p rest = ap (λ l. e ∷ l) (rest (after (place_of s.name es) p))

later : (b : Bool) (o : Option ℕ) → cond b (Some 0) (option_map suc o) ≡ None → (b ≡ false) × (o ≡ None)
later true o p = cc
later false None p = (refl, refl)
later false (Some m) p = cc

-- it then has the place after all
pub placed_new : (es : List (ℕ × Wire)) (k : ℕ) (w : Wire) (n : ℕ) → place_of k es ≡ None
    → cond (k == n) (Some (length es)) (place_of n es) ≡ place_of n (es ++ (k, w) ∷ [])
placed_new [] k w n none = ap (λ b. cond b (Some 0) None) (turned k n)
placed_new (e ∷ es) k w n none = by (k == n) (n == e.0) refl refl (placed_new es k w n (later (k == e.0) (place_of k es) none).1)
  where
    by : (a b : Bool) → (k == n) ≡ a → (n == e.0) ≡ b
        → cond (k == n) (Some (length es)) (place_of n es) ≡ place_of n (es ++ (k, w) ∷ [])
        → cond a (Some (suc (length es))) (cond b (Some 0) (option_map suc (place_of n es))) ≡ cond b (Some 0) (option_map suc (place_of n (es ++ (k, w) ∷ [])))
    by true true p q rest =
        let same : (k == e.0) ≡ true = ap (λ m. m == e.0) (eqb-true k n p) ∙ q in
        let bad = sym same ∙ (later (k == e.0) (place_of k es) none).0 in absurd cc
    by true false p q rest = ap (option_map suc) (sym (ap (λ b. cond b (Some (length es)) (place_of n es)) p) ∙ rest)
    by false true p q rest = refl
    by false false p q rest = ap (option_map suc) (sym (ap (λ b. cond b (Some (length es)) (place_of n es)) p) ∙ rest)

-- ---- a name that has one

later_some : (o : Option ℕ) (i : ℕ) → option_map suc o ≡ Some i → (j : ℕ) × ((o ≡ Some j) × (i ≡ suc j))
later_some None i p = cc
later_some (Some j) i p = (j, (refl, cc))

-- its place is one of the list
pub placed_within : (es : List (ℕ × Wire)) (n i : ℕ) → place_of n es ≡ Some i → i < length es
placed_within [] n i is = cc
placed_within (e ∷ es) n i is = by (n == e.0) is (placed_within es n)
  where
    by : (b : Bool) → cond b (Some 0) (option_map suc (place_of n es)) ≡ Some i → ((j : ℕ) → place_of n es ≡ Some j → j < length es) → i < suc (length es)
    by true p rest = let first : 0 ≡ i = cc in omega (arith, first)
    by false p rest = let next = later_some (place_of n es) i p in let less = rest next.0 next.1.0 in omega (arith, next.1.1, less)

-- its wire is put there
pub stood_again : (es : List (ℕ × Wire)) (s : Standing) (i : ℕ) (d : ℕ × Wire) → place_of s.name es ≡ Some i
    → with_standing es s ≡ set es i (s.name, wire_of (Some (get_or es i d).1) s)
stood_again [] s i d is = cc
stood_again (e ∷ es) s i d is = by (s.name == e.0) refl is (λ j. stood_again es s j d)
  where
    at : ℕ → List (ℕ × Wire)
    at j = set (e ∷ es) j (s.name, wire_of (Some (get_or (e ∷ es) j d).1) s)

    by : (b : Bool) → (s.name == e.0) ≡ b → cond b (Some 0) (option_map suc (place_of s.name es)) ≡ Some i
        → ((j : ℕ) → place_of s.name es ≡ Some j → with_standing es s ≡ set es j (s.name, wire_of (Some (get_or es j d).1) s))
        → cond b ((e.0, wire_of (Some e.1) s) ∷ es) (e ∷ with_standing es s) ≡ at i
    by true q p rest =
        let first : 0 ≡ i = cc in
        ap (λ k. (k, wire_of (Some e.1) s) ∷ es) (sym (eqb-true s.name e.0 q)) ∙ ap at first
    by false q p rest =
        let next = later_some (place_of s.name es) i p in
        ap (λ l. e ∷ l) (rest next.0 next.1.0) ∙ ap at (sym next.1.1)

-- all places stay
pub placed_again : (es : List (ℕ × Wire)) (k i : ℕ) (w : Wire) (n : ℕ) → place_of k es ≡ Some i → place_of n es ≡ place_of n (set es i (k, w))
placed_again [] k i w n is = cc
placed_again (e ∷ es) k i w n is = by (k == e.0) refl is (λ j. placed_again es k j w n)
  where
    at : ℕ → Option ℕ
    at j = place_of n (set (e ∷ es) j (k, w))

    by : (b : Bool) → (k == e.0) ≡ b → cond b (Some 0) (option_map suc (place_of k es)) ≡ Some i
        → ((j : ℕ) → place_of k es ≡ Some j → place_of n es ≡ place_of n (set es j (k, w))) → place_of n (e ∷ es) ≡ at i
    by true q p rest =
        let first : 0 ≡ i = cc in
        ap (λ m. cond (n == m) (Some 0) (option_map suc (place_of n es))) (sym (eqb-true k e.0 q)) ∙ ap at first
    by false q p rest =
        let next = later_some (place_of k es) i p in
        ap (λ o. cond (n == e.0) (Some 0) (option_map suc o)) (rest next.0 next.1.0) ∙ ap at (sym next.1.1)
