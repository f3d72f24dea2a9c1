-- Bytes that begin with those of two terms begin with those of one.
use Rattle.std.proofs.Common.{◌≡◌, ℕ, ◌+◌, ◌^◌, ◌<◌, ◌≤◌, true, List, [], ◌∷◌, ◌++◌, length, map, get_or, sum_by, Option, Some, None, refl, sym, ap, ◌∙◌, append_assoc, arith}
use Rattle.std.specs.Prelude.{slice_get}
use Rattle.std.specs.List.{AllByRecursion}
use Rattle.std.specs.Cmp.{unsigned_Decides}
use Rattle.std.proofs.lemmas.Option.{slice_get_within}
use Rattle.std.proofs.lemmas.Bool.{and_parts}
use Rattle.std.proofs.lemmas.List.Sums.{sum_by-cons, get_or-le-sum_by}
use Rattle.ic_term.specs.declared.term.Term.{Term}
use Rattle.ic_term.specs.declared.term.Cell.{Cell, out-Cell}
use Rattle.ic_term.specs.Term.{tree, cell_tree}
use Rattle.ic_term.specs.lemmas.TermLaws.{cell_tree-out}
use Rattle.ic_term.specs.Tree.{Tree, name, agent, Trees, no_trees, more_trees, names, names_of, nodes, nodes_of, trees_of, list_of}
use Rattle.ic_term.specs.Symbol.{Symbol, has_arity, is_tree_over, are_trees_over}
use Rattle.ic_codec.specs.Numbers.{eight_bytes}
use Rattle.ic_codec.specs.Terms.{tree_bytes, trees_bytes}
use Rattle.ic_codec.proofs.NumberLemmas.{fronts, length-eight_bytes, eight_bytes-injective}

-- a symbol that is known has a number below that of symbols
pub known_below : (ss : List Symbol) (s n : ℕ) (o : Option Symbol) → slice_get ss s ≡ o → has_arity n o ≡ true → s < length ss
known_below ss s n None e h = absurd cc
known_below ss s n (Some x) e h = slice_get_within ss s x e

-- a symbol has one arity
pub one_arity : (m n : ℕ) (o : Option Symbol) → has_arity m o ≡ true → has_arity n o ≡ true → m ≡ n
one_arity m n None h k = absurd cc
one_arity m n (Some x) h k = sym ((unsigned_Decides x.arity m).0 h) ∙ (unsigned_Decides x.arity n).0 k

pub all_left : (P : ℕ → Type 0) (ms ns : List ℕ) → AllByRecursion P (ms ++ ns) → AllByRecursion P ms
all_left P [] ns all = tt
all_left P (m ∷ ms) ns all = (all.0, all_left P ms ns all.1)

pub all_right : (P : ℕ → Type 0) (ms ns : List ℕ) → AllByRecursion P (ms ++ ns) → AllByRecursion P ns
all_right P [] ns all = all
all_right P (m ∷ ms) ns all = all_right P ms ns all.1

mutual
  pub tree_front : (ss : List Symbol) → length ss ≤ 64 → (t u : Tree) (a b : List ℕ)
      → is_tree_over ss t ≡ true → is_tree_over ss u ≡ true
      → AllByRecursion (λ n. n < 2 ^ 64) (names t) → AllByRecursion (λ n. n < 2 ^ 64) (names u)
      → tree_bytes t ++ a ≡ tree_bytes u ++ b → (t ≡ u) × (a ≡ b)
  tree_front ss few (name m) (name n) a b over_t over_u small little e =
      let tails : eight_bytes m ++ a ≡ eight_bytes n ++ b = cc in
      let parts = fronts (eight_bytes m) (eight_bytes n) a b (length-eight_bytes m ∙ sym (length-eight_bytes n)) tails in
      (ap name (eight_bytes-injective m n small.0 little.0 parts.0), parts.1)
  tree_front ss few (name m) (agent r us) a b over_t over_u small little e =
      let known = and_parts (has_arity (length (list_of us)) (slice_get ss r)) (are_trees_over ss us) over_u in
      let below = known_below ss r (length (list_of us)) (slice_get ss r) refl known.0 in
      let same : 255 ≡ r = cc in
      absurd (omega arith)
  tree_front ss few (agent s ts) (name n) a b over_t over_u small little e =
      let known = and_parts (has_arity (length (list_of ts)) (slice_get ss s)) (are_trees_over ss ts) over_t in
      let below = known_below ss s (length (list_of ts)) (slice_get ss s) refl known.0 in
      let same : s ≡ 255 = cc in
      absurd (omega arith)
  tree_front ss few (agent s ts) (agent r us) a b over_t over_u small little e =
      let known = and_parts (has_arity (length (list_of ts)) (slice_get ss s)) (are_trees_over ss ts) over_t in
      let known_too = and_parts (has_arity (length (list_of us)) (slice_get ss r)) (are_trees_over ss us) over_u in
      let symbols : s ≡ r = cc in
      let tails : trees_bytes ts ++ a ≡ trees_bytes us ++ b = cc in
      let count = one_arity (length (list_of ts)) (length (list_of us)) (slice_get ss s) known.0 (ap (λ k. has_arity (length (list_of us)) (slice_get ss k)) symbols ∙ known_too.0) in
      let rest = trees_front ss few ts us a b count known.1 known_too.1 small little tails in
      (ap (λ k. agent k ts) symbols ∙ ap (agent r) rest.0, rest.1)

  pub trees_front : (ss : List Symbol) → length ss ≤ 64 → (ts us : Trees) (a b : List ℕ)
      → length (list_of ts) ≡ length (list_of us)
      → are_trees_over ss ts ≡ true → are_trees_over ss us ≡ true
      → AllByRecursion (λ n. n < 2 ^ 64) (names_of ts) → AllByRecursion (λ n. n < 2 ^ 64) (names_of us)
      → trees_bytes ts ++ a ≡ trees_bytes us ++ b → (ts ≡ us) × (a ≡ b)
  trees_front ss few no_trees no_trees a b count over_t over_u small little e = (refl, e)
  trees_front ss few (more_trees t ts) (more_trees u us) a b count over_t over_u small little e =
      let over = and_parts (is_tree_over ss t) (are_trees_over ss ts) over_t in
      let over_too = and_parts (is_tree_over ss u) (are_trees_over ss us) over_u in
      let joined : tree_bytes t ++ (trees_bytes ts ++ a) ≡ tree_bytes u ++ (trees_bytes us ++ b) = sym (append_assoc (tree_bytes t) (trees_bytes ts) a) ∙ e ∙ append_assoc (tree_bytes u) (trees_bytes us) b in
      let first = tree_front ss few t u (trees_bytes ts ++ a) (trees_bytes us ++ b) over.0 over_too.0 (all_left (λ n. n < 2 ^ 64) (names t) (names_of ts) small) (all_left (λ n. n < 2 ^ 64) (names u) (names_of us) little) joined in
      let rest = trees_front ss few ts us a b (omega arith) over.1 over_too.1 (all_right (λ n. n < 2 ^ 64) (names t) (names_of ts) small) (all_right (λ n. n < 2 ^ 64) (names u) (names_of us) little) first.1 in
      (ap (λ (x : Tree). more_trees x ts) first.0 ∙ ap (more_trees u) rest.0, rest.1)
  trees_front ss few _ _ a b count over_t over_u small little e = absurd (omega arith)

arguments_nodes : (ts : List Term) → nodes_of (trees_of (map tree ts)) ≡ sum_by (λ t. nodes (tree t)) ts
arguments_nodes [] = refl
arguments_nodes (t ∷ ts) = ap (λ n. nodes (tree t) + n) (arguments_nodes ts) ∙ sym (sum_by-cons (λ u. nodes (tree u)) t ts)

-- an argument has fewer nodes than its agent
pub argument_nodes : (cell : Cell) (i : ℕ) (t : Term) → i < length (out-Cell cell).args.items → t ≡ get_or (out-Cell cell).args.items i t
    → nodes (tree t) < nodes (cell_tree cell)
argument_nodes cell i t below is =
    let items = (out-Cell cell).args.items in
    let f : Term → ℕ = λ u. nodes (tree u) in
    let whole : nodes (cell_tree cell) ≡ 1 + sum_by f items = ap nodes (cell_tree-out cell) ∙ ap (λ n. 1 + n) (arguments_nodes items) in
    let part : f (get_or items i t) ≤ sum_by f items = get_or-le-sum_by f items i t below in
    omega (arith, whole, part, ap f is)
