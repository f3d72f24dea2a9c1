-- Lemmas, which a reader of the contracts doesn't need: how terms as plain data are stored, their arguments as
-- lists, and that the test of equality is equality.
use Rattle.std.specs.Prelude.{◌≡◌, ◌+◌, ◌==◌, List, [], ◌∷◌, true, sum_by, refl}
use Rattle.std.specs.Bool.{Decides}
use Rattle.std.specs.Cmp.{IsEquivalence, decided, unsigned_Decides}
use Rattle.std.specs.Coded.{Coded, code_by, coded×}
use Rattle.std.proofs.lemmas.Bool.{and_parts}
use Rattle.std.proofs.lemmas.List.Sums.{sum_by-cons}
use Rattle.std.proofs.Common.{sym, ◌∙◌, ap}
use base.Stored.{Gv, gnil, gnum, gcons}
use Rattle.ic_term.specs.Tree.{Tree, name, agent, Trees, no_trees, more_trees, list_of, trees_of, nodes, nodes_of, Pair, tree_eq, trees_eq, pair_eq}

abbrev mutual
  tree_code : Tree → Gv
  tree_code (name n) = gnum n
  tree_code (agent s ts) = gcons (gnum s) (trees_code ts)

  trees_code : Trees → Gv
  trees_code no_trees = gnil
  trees_code (more_trees t ts) = gcons (tree_code t) (trees_code ts)

mutual
  pub tree_code-injective : (t u : Tree) → tree_code t ≡ tree_code u → t ≡ u
  tree_code-injective (name m) (name n) e = cc
  tree_code-injective (agent s ts) (agent r us) e =
      let codes_equal : trees_code ts ≡ trees_code us = cc in
      let below = trees_code-injective ts us codes_equal in cc
  tree_code-injective _ _ e = cc

  pub trees_code-injective : (ts us : Trees) → trees_code ts ≡ trees_code us → ts ≡ us
  trees_code-injective no_trees no_trees e = refl
  trees_code-injective (more_trees t ts) (more_trees u us) e =
      let heads : tree_code t ≡ tree_code u = cc in
      let tails : trees_code ts ≡ trees_code us = cc in
      let first = tree_code-injective t u heads in
      let rest = trees_code-injective ts us tails in cc
  trees_code-injective _ _ e = cc

abbrev pub coded_tree : Coded Tree
coded_tree = record { code = tree_code; inj = tree_code-injective }

abbrev pub coded_pair : Coded Pair
coded_pair = code_by (Tree × Tree) (coded× coded_tree coded_tree) (λ p. (p.left, p.right)) (λ p. record { left = p.0; right = p.1 }) (λ _. refl)

-- a list as the arguments of an agent, and as a list again
pub list_of-trees_of : (ts : List Tree) → list_of (trees_of ts) ≡ ts
list_of-trees_of [] = refl
list_of-trees_of (t ∷ ts) = ap (λ us. t ∷ us) (list_of-trees_of ts)

-- the nodes of an agent's arguments are those of the list
pub nodes_of-trees_of : (ts : List Tree) → nodes_of (trees_of ts) ≡ sum_by nodes ts
nodes_of-trees_of [] = refl
nodes_of-trees_of (t ∷ ts) = ap (λ n. nodes t + n) (nodes_of-trees_of ts) ∙ sym (sum_by-cons nodes t ts)

mutual
  pub tree_eq-refl : (t : Tree) → tree_eq t t ≡ true
  tree_eq-refl (name n) = (unsigned_Decides n n).1 refl
  tree_eq-refl (agent s ts) = rw ((unsigned_Decides s s).1 refl) (trees_eq-refl ts)

  pub trees_eq-refl : (ts : Trees) → trees_eq ts ts ≡ true
  trees_eq-refl no_trees = refl
  trees_eq-refl (more_trees t ts) = rw (tree_eq-refl t) (trees_eq-refl ts)

-- terms that the test calls the same are equal
mutual
  pub tree_eq-true : (t u : Tree) → tree_eq t u ≡ true → t ≡ u
  tree_eq-true (name m) (name n) e = ap name ((unsigned_Decides m n).0 e)
  tree_eq-true (agent s ts) (agent r us) e =
      let parts = and_parts (s == r) (trees_eq ts us) e in
      let symbols = (unsigned_Decides s r).0 parts.0 in
      let arguments = trees_eq-true ts us parts.1 in
      cc
  tree_eq-true _ _ e = cc

  pub trees_eq-true : (ts us : Trees) → trees_eq ts us ≡ true → ts ≡ us
  trees_eq-true no_trees no_trees e = refl
  trees_eq-true (more_trees t ts) (more_trees u us) e =
      let parts = and_parts (tree_eq t u) (trees_eq ts us) e in
      let first = tree_eq-true t u parts.0 in
      let rest = trees_eq-true ts us parts.1 in
      cc
  trees_eq-true _ _ e = cc

-- the test of equality tells exactly whether two terms are equal
pub tree_eq-Decides : (t u : Tree) → Decides (tree_eq t u) (t ≡ u)
tree_eq-Decides t u = (tree_eq-true t u, λ e. ap (tree_eq t) (sym e) ∙ tree_eq-refl t)

pub pair_eq-Decides : (p q : Pair) → Decides (pair_eq p q) (p ≡ q)
pair_eq-Decides p q = (
  (λ e. let parts = and_parts (tree_eq p.left q.left) (tree_eq p.right q.right) e in
      let left = tree_eq-true p.left q.left parts.0 in
      let right = tree_eq-true p.right q.right parts.1 in
      ap (λ (a : Tree × Tree). record { left = a.0; right = a.1 }) (λ i. (left i, right i))),
  (λ e. ap (pair_eq p) (sym e) ∙ (rw (tree_eq-refl p.left) (tree_eq-refl p.right))),
)

pub tree_eq-equivalence : IsEquivalence tree_eq
tree_eq-equivalence = decided tree_eq tree_eq-Decides

pub pair_eq-equivalence : IsEquivalence pair_eq
pair_eq-equivalence = decided pair_eq pair_eq-Decides
