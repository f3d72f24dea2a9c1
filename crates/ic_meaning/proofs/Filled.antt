-- Lemmas: a term with terms put for its names.
use Rattle.std.proofs.Common.{◌≡◌, ◌⊎◌, ℕ, zero, suc, ◌+◌, ◌≤◌, ◌==◌, [], ◌∷◌, ◌++◌, Bool, true, false, refl, ap, arith, inl, inr}
use Rattle.std.specs.List.{AllByRecursion}
use Rattle.ic_term.specs.Tree.{Tree, name, agent, Trees, no_trees, more_trees, names, names_of}
use Rattle.ic_term.specs.Configuration.{occurrences}
use Rattle.ic_rules.specs.Renaming.{renamed, renamed_trees}
use Rattle.ic_settle.specs.Settling.{subst, subst_all}
use Rattle.ic_settle.specs.lemmas.SubstitutionLaws.{occurrences-append, All-front, All-back}
use Rattle.std.specs.Cmp.{unsigned_Decides}
use Rattle.ic_meaning.specs.Plans.{filled, filled_all}

-- the same terms for the names that occur
mutual
  pub filled_same : (f g : ℕ → Tree) (t : Tree) → AllByRecursion (λ x. f x ≡ g x) (names t) → filled f t ≡ filled g t
  filled_same f g (name x) all = all.0
  filled_same f g (agent s ts) all = ap (agent s) (filled_same_all f g ts all)

  pub filled_same_all : (f g : ℕ → Tree) (ts : Trees) → AllByRecursion (λ x. f x ≡ g x) (names_of ts) → filled_all f ts ≡ filled_all g ts
  filled_same_all f g no_trees all = refl
  filled_same_all f g (more_trees t ts) all = λ i.
      more_trees (filled_same f g t (All-front (λ x. f x ≡ g x) (names t) (names_of ts) all) i)
      (filled_same_all f g ts (All-back (λ x. f x ≡ g x) (names t) (names_of ts) all) i)

-- a name for each name
mutual
  pub filled_renamed : (g : ℕ → ℕ) (t : Tree) → renamed g t ≡ filled (λ x. name (g x)) t
  filled_renamed g (name x) = refl
  filled_renamed g (agent s ts) = ap (agent s) (filled_renamed_all g ts)

  pub filled_renamed_all : (g : ℕ → ℕ) (ts : Trees) → renamed_trees g ts ≡ filled_all (λ x. name (g x)) ts
  filled_renamed_all g no_trees = refl
  filled_renamed_all g (more_trees t ts) = λ i. more_trees (filled_renamed g t i) (filled_renamed_all g ts i)

-- a term put for a name afterwards
mutual
  pub subst_filled : (x : ℕ) (u : Tree) (f : ℕ → Tree) (t : Tree) → subst x u (filled f t) ≡ filled (λ z. subst x u (f z)) t
  subst_filled x u f (name z) = refl
  subst_filled x u f (agent s ts) = ap (agent s) (subst_filled_all x u f ts)

  pub subst_filled_all : (x : ℕ) (u : Tree) (f : ℕ → Tree) (ts : Trees) → subst_all x u (filled_all f ts) ≡ filled_all (λ z. subst x u (f z)) ts
  subst_filled_all x u f no_trees = refl
  subst_filled_all x u f (more_trees t ts) = λ i. more_trees (subst_filled x u f t i) (subst_filled_all x u f ts i)

-- a name of the term of a name that occurs
pub some_of_two : (a b : ℕ) → 1 ≤ a + b → (1 ≤ a) ⊎ (1 ≤ b)
some_of_two a b h = at (a == 0) refl
  where
    at : (t : Bool) → (a == 0) ≡ t → (1 ≤ a) ⊎ (1 ≤ b)
    at true e = let none = (unsigned_Decides a 0).0 e in inr (omega arith)
    at false e = inl (positive a e)
      where
        positive : (a : ℕ) → (a == 0) ≡ false → 1 ≤ a
        positive zero e = cc
        positive (suc a) e = omega arith

in_either : (x z : ℕ) (f : ℕ → Tree) (t : Tree) (ts : Trees)
    → (1 ≤ occurrences z (names t)) ⊎ (1 ≤ occurrences z (names_of ts))
    → (1 ≤ occurrences z (names t) → 1 ≤ occurrences x (names (filled f t)))
    → (1 ≤ occurrences z (names_of ts) → 1 ≤ occurrences x (names_of (filled_all f ts)))
    → 1 ≤ occurrences x (names (filled f t) ++ names_of (filled_all f ts))
in_either x z f t ts (inl here) a b =
    let some = a here in
    let parts = occurrences-append x (names (filled f t)) (names_of (filled_all f ts)) in
    omega arith
in_either x z f t ts (inr later) a b =
    let some = b later in
    let parts = occurrences-append x (names (filled f t)) (names_of (filled_all f ts)) in
    omega arith

mutual
  pub filled_some : (x z : ℕ) (f : ℕ → Tree) (t : Tree) → 1 ≤ occurrences x (names (f z)) → 1 ≤ occurrences z (names t)
      → 1 ≤ occurrences x (names (filled f t))
  filled_some x z f (name y) some there = at (y == z) refl
    where
      at : (b : Bool) → (y == z) ≡ b → 1 ≤ occurrences x (names (f y))
      at true e = let same = (unsigned_Decides y z).0 e in rw same some
      at false e = let none : occurrences z (y ∷ []) ≡ 0 = rw e refl in absurd (omega arith)
  filled_some x z f (agent s ts) some there = filled_some_all x z f ts some there

  pub filled_some_all : (x z : ℕ) (f : ℕ → Tree) (ts : Trees) → 1 ≤ occurrences x (names (f z)) → 1 ≤ occurrences z (names_of ts)
      → 1 ≤ occurrences x (names_of (filled_all f ts))
  filled_some_all x z f no_trees some there = absurd (omega arith)
  filled_some_all x z f (more_trees t ts) some there =
      let parts = occurrences-append z (names t) (names_of ts) in
      in_either x z f t ts (some_of_two (occurrences z (names t)) (occurrences z (names_of ts)) (omega arith))
      (λ here. filled_some x z f t some here) (λ later. filled_some_all x z f ts some later)
