-- Laws of putting a term for a name in a term.
use Rattle.std.proofs.Common.{◌≡◌, ℕ, suc, ◌+◌, ◌*◌, ◌≤◌, ◌==◌, List, [], ◌∷◌, ◌++◌, Bool, true, false, ◌&&◌, ◌||◌, cond, length, refl, sym, ap, ◌∙◌, arith}
use Rattle.std.specs.List.{AllByRecursion, slice_get}
use Rattle.std.proofs.lemmas.List.Sums.{sum_by-append, sum_by-cons}
use Rattle.std.proofs.lemmas.Bool.{and_parts}
use Rattle.ic_term.specs.Tree.{Tree, name, agent, Trees, no_trees, more_trees, list_of, nodes, nodes_of, names, names_of}
use Rattle.ic_term.specs.Configuration.{occurrences}
use Rattle.ic_term.specs.Symbol.{Symbol, is_tree_over, are_trees_over, has_arity}
use Rattle.ic_settle.specs.Settling.{subst, subst_all, occurs}

pub occurrences-append : (n : ℕ) (ms ns : List ℕ) → occurrences n (ms ++ ns) ≡ occurrences n ms + occurrences n ns
occurrences-append n ms ns = sum_by-append _ ms ns

pub occurrences-cons : (n m : ℕ) (ms : List ℕ) → occurrences n (m ∷ ms) ≡ cond (m == n) 1 0 + occurrences n ms
occurrences-cons n m ms = sum_by-cons _ m ms

absent_step : (n m : ℕ) (ms : List ℕ) (b : Bool) → (m == n) ≡ b → ((m == n) || occurs n ms) ≡ false
    → (occurs n ms ≡ false → occurrences n ms ≡ 0) → occurrences n (m ∷ ms) ≡ 0
absent_step n m ms true e f rest = let bad = rw e at f in cc
absent_step n m ms false e f rest = rw (occurrences-cons n m ms, e) (let g = rw e at f in omega (arith, rest g))

none_step : (n m : ℕ) (ms : List ℕ) (b : Bool) → (m == n) ≡ b → cond (m == n) 1 0 + occurrences n ms ≡ 0
    → (occurrences n ms ≡ 0 → occurs n ms ≡ false) → ((m == n) || occurs n ms) ≡ false
none_step n m ms true e f rest = let bad = rw e at f in absurd (omega arith)
none_step n m ms false e f rest = rw e (let g = rw e at f in rest (omega arith))

some_step : (n m : ℕ) (ms : List ℕ) (b : Bool) → (m == n) ≡ b → ((m == n) || occurs n ms) ≡ true
    → (occurs n ms ≡ true → 1 ≤ occurrences n ms) → 1 ≤ occurrences n (m ∷ ms)
some_step n m ms true e f rest = rw (occurrences-cons n m ms, e) (omega arith)
some_step n m ms false e f rest = rw (occurrences-cons n m ms, e) (let g = rw e at f in omega (arith, rest g))

-- a name that doesn't occur, and one that does
pub occurrences_none : (n : ℕ) (ns : List ℕ) → occurs n ns ≡ false → occurrences n ns ≡ 0
occurrences_none n [] e = refl
occurrences_none n (m ∷ ms) e = absent_step n m ms (m == n) refl e (λ f. occurrences_none n ms f)

pub occurs_none : (n : ℕ) (ns : List ℕ) → occurrences n ns ≡ 0 → occurs n ns ≡ false
occurs_none n [] e = refl
occurs_none n (m ∷ ms) e = none_step n m ms (m == n) refl (sym (occurrences-cons n m ms) ∙ e) (λ f. occurs_none n ms f)

pub occurrences_some : (n : ℕ) (ns : List ℕ) → occurs n ns ≡ true → 1 ≤ occurrences n ns
occurrences_some n [] e = cc
occurrences_some n (m ∷ ms) e = some_step n m ms (m == n) refl e (λ f. occurrences_some n ms f)

pub All-append : (P : ℕ → Type 0) (ms ns : List ℕ) → AllByRecursion P ms → AllByRecursion P ns → AllByRecursion P (ms ++ ns)
All-append P [] ns p q = q
All-append P (m ∷ ms) ns p q = (p.0, All-append P ms ns p.1 q)

pub All-front : (P : ℕ → Type 0) (ms ns : List ℕ) → AllByRecursion P (ms ++ ns) → AllByRecursion P ms
All-front P [] ns p = tt
All-front P (m ∷ ms) ns p = (p.0, All-front P ms ns p.1)

pub All-back : (P : ℕ → Type 0) (ms ns : List ℕ) → AllByRecursion P (ms ++ ns) → AllByRecursion P ns
All-back P [] ns p = p
All-back P (m ∷ ms) ns p = All-back P ms ns p.1

-- each name of the result is one of the term's or of the old term's
mutual
  pub All-subst : (P : ℕ → Type 0) (x : ℕ) (u t : Tree) → AllByRecursion P (names u) → AllByRecursion P (names t) → AllByRecursion P (names (subst x u t))
  All-subst P x u (name n) p q = elim (n == x) as (λ b. AllByRecursion P (names (cond b u (name n)))) [ true ↦ p | false ↦ q ]
  All-subst P x u (agent s ts) p q = All-subst_all P x u ts p q

  pub All-subst_all : (P : ℕ → Type 0) (x : ℕ) (u : Tree) (ts : Trees) → AllByRecursion P (names u) → AllByRecursion P (names_of ts) → AllByRecursion P (names_of (subst_all x u ts))
  All-subst_all P x u no_trees p q = q
  All-subst_all P x u (more_trees t ts) p q = All-append P (names (subst x u t)) (names_of (subst_all x u ts))
      (All-subst P x u t p (All-front P (names t) (names_of ts) q)) (All-subst_all P x u ts p (All-back P (names t) (names_of ts) q))

nodes_step : (p a m q b n o k : ℕ) → p + a ≡ m + a * k → q + b ≡ n + b * k → o ≡ a + b → (p + q) + o ≡ (m + n) + o * k
nodes_step p a m q b n o k f g e = rw e (omega arith)

occurrences_step : (p a m q b n o s w k : ℕ) → p ≤ m + a * k → q ≤ n + b * k → o ≡ a + b → s ≡ m + n → w ≡ p + q → w ≤ s + o * k
occurrences_step p a m q b n o s w k f g e h i = rw (e, h, i) (omega arith)

-- each occurrence of the name gives way to the nodes of the term
mutual
  pub nodes-subst : (x : ℕ) (u t : Tree) → nodes (subst x u t) + occurrences x (names t) ≡ nodes t + occurrences x (names t) * nodes u
  nodes-subst x u (name n) = elim (n == x) as (λ b. nodes (cond b u (name n)) + (0 + cond b 1 0) ≡ 1 + (0 + cond b 1 0) * nodes u) [ true ↦ omega arith | false ↦ omega arith ]
  nodes-subst x u (agent s ts) = omega (arith, nodes-subst_all x u ts)

  pub nodes-subst_all : (x : ℕ) (u : Tree) (ts : Trees) → nodes_of (subst_all x u ts) + occurrences x (names_of ts) ≡ nodes_of ts + occurrences x (names_of ts) * nodes u
  nodes-subst_all x u no_trees = omega arith
  nodes-subst_all x u (more_trees t ts) = nodes_step (nodes (subst x u t)) (occurrences x (names t)) (nodes t) (nodes_of (subst_all x u ts)) (occurrences x (names_of ts)) (nodes_of ts) _ (nodes u)
      (nodes-subst x u t) (nodes-subst_all x u ts) (occurrences-append x (names t) (names_of ts))

-- a name occurs in the result as often as before, and as often as in the term for each occurrence of the other name
mutual
  pub occurrences-subst : (n x : ℕ) (u t : Tree) → occurrences n (names (subst x u t)) ≤ occurrences n (names t) + occurrences x (names t) * occurrences n (names u)
  occurrences-subst n x u (name m) = elim (m == x) as (λ b. occurrences n (names (cond b u (name m))) ≤ occurrences n (m ∷ []) + (0 + cond b 1 0) * occurrences n (names u)) [ true ↦ omega arith | false ↦ omega arith ]
  occurrences-subst n x u (agent s ts) = occurrences-subst_all n x u ts

  pub occurrences-subst_all : (n x : ℕ) (u : Tree) (ts : Trees)
      → occurrences n (names_of (subst_all x u ts)) ≤ occurrences n (names_of ts) + occurrences x (names_of ts) * occurrences n (names u)
  occurrences-subst_all n x u no_trees = omega arith
  occurrences-subst_all n x u (more_trees t ts) = occurrences_step (occurrences n (names (subst x u t))) (occurrences x (names t)) (occurrences n (names t)) (occurrences n (names_of (subst_all x u ts)))
      (occurrences x (names_of ts)) (occurrences n (names_of ts)) _ _ _ (occurrences n (names u)) (occurrences-subst n x u t) (occurrences-subst_all n x u ts)
      (occurrences-append x (names t) (names_of ts)) (occurrences-append n (names t) (names_of ts)) (occurrences-append n (names (subst x u t)) (names_of (subst_all x u ts)))

absent_name : (x : ℕ) (u : Tree) (n : ℕ) → 0 + cond (n == x) 1 0 ≡ 0 → (b : Bool) → (n == x) ≡ b → cond (n == x) u (name n) ≡ name n
absent_name x u n p true e = let bad = rw e at p in absurd (omega arith)
absent_name x u n p false e = rw e refl

-- a term without the name stays
mutual
  pub subst-absent : (x : ℕ) (u t : Tree) → occurrences x (names t) ≡ 0 → subst x u t ≡ t
  subst-absent x u (name n) p = absent_name x u n p (n == x) refl
  subst-absent x u (agent s ts) p = ap (agent s) (subst_all-absent x u ts p)

  pub subst_all-absent : (x : ℕ) (u : Tree) (ts : Trees) → occurrences x (names_of ts) ≡ 0 → subst_all x u ts ≡ ts
  subst_all-absent x u no_trees p = refl
  subst_all-absent x u (more_trees t ts) p =
      let first : occurrences x (names t) ≡ 0 = omega (arith, occurrences-append x (names t) (names_of ts)) in
      let rest : occurrences x (names_of ts) ≡ 0 = omega (arith, occurrences-append x (names t) (names_of ts)) in
      let e = subst-absent x u t first in let f = subst_all-absent x u ts rest in cc

pub and_both : {a b : Bool} → a ≡ true → b ≡ true → (a && b) ≡ true
and_both p q = rw (p, q) refl

-- the symbols stay over
pub list_of-subst_all : (x : ℕ) (u : Tree) (ts : Trees) → length (list_of (subst_all x u ts)) ≡ length (list_of ts)
list_of-subst_all x u no_trees = refl
list_of-subst_all x u (more_trees t ts) = ap suc (list_of-subst_all x u ts)

mutual
  pub over-subst : (ss : List Symbol) (x : ℕ) (u t : Tree) → is_tree_over ss u ≡ true → is_tree_over ss t ≡ true → is_tree_over ss (subst x u t) ≡ true
  over-subst ss x u (name n) p q = elim (n == x) as (λ b. is_tree_over ss (cond b u (name n)) ≡ true) [ true ↦ p | false ↦ q ]
  over-subst ss x u (agent s ts) p q =
      let both = and_parts (has_arity (length (list_of ts)) (slice_get ss s)) (are_trees_over ss ts) q in
      and_both (rw (list_of-subst_all x u ts) both.0) (over-subst_all ss x u ts p both.1)

  pub over-subst_all : (ss : List Symbol) (x : ℕ) (u : Tree) (ts : Trees) → is_tree_over ss u ≡ true → are_trees_over ss ts ≡ true → are_trees_over ss (subst_all x u ts) ≡ true
  over-subst_all ss x u no_trees p q = refl
  over-subst_all ss x u (more_trees t ts) p q =
      let both = and_parts (is_tree_over ss t) (are_trees_over ss ts) q in
      and_both (over-subst ss x u t p both.0) (over-subst_all ss x u ts p both.1)
