-- What a step of indirection or collect keeps.
use Rattle.std.proofs.Common.{◌≡◌, ℕ, ◌+◌, ◌*◌, ◌≤◌, ◌<◌, List, [], ◌∷◌, ◌++◌, true, map, refl, sym, ◌∙◌, ap, eq-eqb, inl, inr, arith}
use Rattle.std.specs.List.{list_all, AllByRecursion}
use Rattle.std.proofs.lemmas.Bool.{and_parts}
use Rattle.ic_term.specs.Tree.{Tree, name, Pair, names, names_of, nodes, nodes_of, pair_names, pair_nodes}
use Rattle.ic_term.specs.Configuration.{IsConfiguration, names_in, nodes_in, occurrences}
use Rattle.ic_term.specs.Symbol.{Symbol, is_tree_over, are_trees_over, is_pair_over, is_over}
use Rattle.ic_settle.specs.Settling.{Binding, subst, subst_in, subst_all, subst_pair, occurs, Binds}
use Rattle.ic_settle.specs.lemmas.SubstitutionLaws.{occurrences-append, occurrences_some, occurrences-subst_all, nodes-subst_all, All-subst_all, over-subst_all, and_both, All-front, All-back}
use Rattle.ic_settle.specs.lemmas.WholeLaws.{whole, names_of-whole, nodes_of-whole, subst_all-whole, over-whole, length-map_subst}
use Rattle.ic_settle.specs.lemmas.MiddleLaws.{nodes-middle, occurrences-middle, All-middle, over-middle}

-- ---- an equation that binds a name

pub nodes-binds : (p : Pair) (b : Binding) → Binds p b → pair_nodes p ≡ 1 + nodes b.term
nodes-binds p b side = elim side [ inl e ↦ ap pair_nodes e | inr e ↦ rw e (omega arith) ]

-- the name occurs in it once more than in its term
pub occurrences-binds : (n : ℕ) (p : Pair) (b : Binding) → Binds p b
    → occurrences n (pair_names p) ≡ occurrences n (b.name ∷ []) + occurrences n (names b.term)
occurrences-binds n p b side = elim side [
  | inl e ↦ rw e (occurrences-append n (b.name ∷ []) (names b.term))
  | inr e ↦ rw e (omega (arith, occurrences-append n (names b.term) (b.name ∷ [])))
]

pub All-binds : (P : ℕ → Type 0) (p : Pair) (b : Binding) → Binds p b → AllByRecursion P (pair_names p) → AllByRecursion P (names b.term)
All-binds P p b side all = elim side [
  | inl e ↦ All-back P (b.name ∷ []) (names b.term) (rw e at all)
  | inr e ↦ All-front P (names b.term) (b.name ∷ []) (rw e at all)
]

pub over-binds : (ss : List Symbol) (p : Pair) (b : Binding) → Binds p b → is_pair_over ss p ≡ true → is_tree_over ss b.term ≡ true
over-binds ss p b side over = elim side [
  | inl e ↦ (and_parts (is_tree_over ss (name b.name)) (is_tree_over ss b.term) (rw e at over)).1
  | inr e ↦ (and_parts (is_tree_over ss b.term) (is_tree_over ss (name b.name)) (rw e at over)).0
]

pub itself_once : (n : ℕ) → occurrences n (n ∷ []) ≡ 1
itself_once n = rw (eq-eqb n n refl) refl

-- ---- the step

-- outside of its equation, a name occurs just once where it occurs at all
pub once_outside : (ts : List Tree) (before : List Pair) (p : Pair) (after : List Pair) (b : Binding) → Binds p b
    → ((n : ℕ) → occurrences n (names_in ts (before ++ p ∷ after)) ≤ 2) → occurs b.name (names_in ts (before ++ after)) ≡ true
    → occurrences b.name (names_in ts (before ++ after)) ≡ 1
once_outside ts before p after b side twice outside =
    let here = occurrences-binds b.name p b side in
    let one = itself_once b.name in
    let all = occurrences-middle b.name ts before p after in
    let some = occurrences_some b.name (names_in ts (before ++ after)) outside in
    omega (arith, twice b.name)

-- how often a name occurs after a substitution in a configuration
pub occurrences-subst_in : (n x : ℕ) (u : Tree) (ts : List Tree) (es : List Pair)
    → occurrences n (names_in (map (subst x u) ts) (map (subst_pair x u) es)) ≤ occurrences n (names_in ts es) + occurrences x (names_in ts es) * occurrences n (names u)
occurrences-subst_in n x u ts es =
    let bound = occurrences-subst_all n x u (whole ts es) in
    let renamed : names_of (subst_all x u (whole ts es)) ≡ names_in (map (subst x u) ts) (map (subst_pair x u) es) =
    ap names_of (subst_all-whole x u ts es) ∙ names_of-whole (map (subst x u) ts) (map (subst_pair x u) es) in
    rw (← renamed, ← names_of-whole ts es) bound

nodes-subst_in : (x : ℕ) (u : Tree) (ts : List Tree) (es : List Pair)
    → nodes_in (map (subst x u) ts) (map (subst_pair x u) es) + occurrences x (names_in ts es) ≡ nodes_in ts es + occurrences x (names_in ts es) * nodes u
nodes-subst_in x u ts es =
    let equal = nodes-subst_all x u (whole ts es) in
    let renamed : nodes_of (subst_all x u (whole ts es)) ≡ nodes_in (map (subst x u) ts) (map (subst_pair x u) es) =
    ap nodes_of (subst_all-whole x u ts es) ∙ nodes_of-whole (map (subst x u) ts) (map (subst_pair x u) es) in
    rw (← renamed, ← names_of-whole ts es, ← nodes_of-whole ts es) equal

All-subst_in : (P : ℕ → Type 0) (x : ℕ) (u : Tree) (ts : List Tree) (es : List Pair) → AllByRecursion P (names u) → AllByRecursion P (names_in ts es)
    → AllByRecursion P (names_in (map (subst x u) ts) (map (subst_pair x u) es))
All-subst_in P x u ts es first all =
    let renamed : names_of (subst_all x u (whole ts es)) ≡ names_in (map (subst x u) ts) (map (subst_pair x u) es) =
    ap names_of (subst_all-whole x u ts es) ∙ names_of-whole (map (subst x u) ts) (map (subst_pair x u) es) in
    rw (← renamed) (All-subst_all P x u (whole ts es) first (rw (names_of-whole ts es) all))

nodes_bound : (o k n m p : ℕ) → o ≡ 1 → n + o ≡ m + o * k → p ≡ 1 + k → n ≤ m + p
nodes_bound o k n m p one e f = let g = rw one at e in omega arith

occurrences_bound : (o k n m p l : ℕ) → o ≡ 1 → n ≤ m + o * k → p ≡ l + k → m + p ≤ 2 → n ≤ 2
occurrences_bound o k n m p l one e f bound = let g = rw one at e in omega arith

-- a configuration stays one
pub configuration_kept : (ts : List Tree) (before : List Pair) (p : Pair) (after : List Pair) (next : ℕ) (b : Binding) → Binds p b
    → occurs b.name (names_in ts (before ++ after)) ≡ true
    → IsConfiguration (record { interface = ts; equations = before ++ p ∷ after; next = next })
    → IsConfiguration (subst_in b.name b.term (record { interface = ts; equations = before ++ after; next = next }))
configuration_kept ts before p after next b side outside valid =
    let rest = before ++ after in
    let one = once_outside ts before p after b side valid.twice outside in
    let below = All-middle (λ n. n < next) ts before p after valid.below in
    record {
      nodes =
          let fewer = nodes_bound _ (nodes b.term) _ (nodes_in ts rest) (pair_nodes p) one (nodes-subst_in b.name b.term ts rest) (nodes-binds p b side) in
          omega (arith, valid.nodes, nodes-middle ts before p after);
      interface = rw (length-map_subst b.name b.term ts) valid.interface;
      next = valid.next;
      below = All-subst_in (λ n. n < next) b.name b.term ts rest (All-binds (λ n. n < next) p b side below.1) below.0;
      twice = λ n.
          let before_step : occurrences n (names_in ts rest) + occurrences n (pair_names p) ≤ 2 = omega (arith, valid.twice n, occurrences-middle n ts before p after) in
          occurrences_bound _ (occurrences n (names b.term)) _ (occurrences n (names_in ts rest)) (occurrences n (pair_names p)) _ one
          (occurrences-subst_in n b.name b.term ts rest) (occurrences-binds n p b side) before_step;
    }

-- the symbols stay over
pub over_kept : (ss : List Symbol) (ts : List Tree) (before : List Pair) (p : Pair) (after : List Pair) (next : ℕ) (b : Binding) → Binds p b
    → is_over ss (record { interface = ts; equations = before ++ p ∷ after; next = next }) ≡ true
    → is_over ss (subst_in b.name b.term (record { interface = ts; equations = before ++ after; next = next })) ≡ true
over_kept ss ts before p after next b side over =
    let rest = before ++ after in
    let parts = and_parts (list_all (is_tree_over ss) ts) (list_all (is_pair_over ss) (before ++ p ∷ after)) over in
    let equations = over-middle ss before p after parts.1 in
    let term = over-binds ss p b side equations.1 in
    let all = over-subst_all ss b.name b.term (whole ts rest) term (over-whole ss ts rest ∙ and_both parts.0 equations.0) in
    sym (over-whole ss (map (subst b.name b.term) ts) (map (subst_pair b.name b.term) rest)) ∙ sym (ap (are_trees_over ss) (subst_all-whole b.name b.term ts rest)) ∙ all
