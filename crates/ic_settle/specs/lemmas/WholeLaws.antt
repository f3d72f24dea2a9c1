-- All terms of an interface and of equations in one list, so that a law of terms is one of configurations.
use Rattle.std.proofs.Common.{◌≡◌, ℕ, suc, List, [], ◌∷◌, ◌++◌, ◌&&◌, length, map, refl, sym, ◌∙◌, ap, append_assoc, zero-add, arith}
use Rattle.std.proofs.lemmas.List.Sums.{sum_by-cons}
use Rattle.std.proofs.Math.Bool.{and_assoc}
use Rattle.std.specs.List.{flat_map, list_all}
use Rattle.std.specs.Prelude.{sum_by}
use Rattle.ic_term.specs.Tree.{Tree, Trees, no_trees, more_trees, Pair, names, names_of, nodes, nodes_of, pair_names, pair_nodes}
use Rattle.ic_term.specs.Configuration.{names_in, nodes_in}
use Rattle.ic_term.specs.Symbol.{Symbol, is_tree_over, are_trees_over, is_pair_over}
use Rattle.ic_settle.specs.Settling.{subst, subst_all, subst_pair}

abbrev pub sides : List Pair → Trees
sides [] = no_trees
sides (p ∷ ps) = more_trees p.left (more_trees p.right (sides ps))

abbrev pub whole : List Tree → List Pair → Trees
whole [] es = sides es
whole (t ∷ ts) es = more_trees t (whole ts es)

names_of-sides : (es : List Pair) → names_of (sides es) ≡ flat_map pair_names es
names_of-sides [] = refl
names_of-sides (p ∷ ps) = ap (λ ns. names p.left ++ (names p.right ++ ns)) (names_of-sides ps) ∙ sym (append_assoc (names p.left) (names p.right) (flat_map pair_names ps))

pub names_of-whole : (ts : List Tree) (es : List Pair) → names_of (whole ts es) ≡ names_in ts es
names_of-whole [] es = names_of-sides es
names_of-whole (t ∷ ts) es = ap (λ ns. names t ++ ns) (names_of-whole ts es) ∙ sym (append_assoc (names t) (flat_map names ts) (flat_map pair_names es))

nodes_of-sides : (es : List Pair) → nodes_of (sides es) ≡ sum_by pair_nodes es
nodes_of-sides [] = refl
nodes_of-sides (p ∷ ps) = rw (sum_by-cons pair_nodes p ps) (omega (arith, nodes_of-sides ps))

pub nodes_of-whole : (ts : List Tree) (es : List Pair) → nodes_of (whole ts es) ≡ nodes_in ts es
nodes_of-whole [] es = rw zero-add (nodes_of-sides es)
nodes_of-whole (t ∷ ts) es = rw (sum_by-cons nodes t ts) (omega (arith, nodes_of-whole ts es))

subst_all-sides : (x : ℕ) (u : Tree) (es : List Pair) → subst_all x u (sides es) ≡ sides (map (subst_pair x u) es)
subst_all-sides x u [] = refl
subst_all-sides x u (p ∷ ps) = ap (λ r. more_trees (subst x u p.left) (more_trees (subst x u p.right) r)) (subst_all-sides x u ps)

pub subst_all-whole : (x : ℕ) (u : Tree) (ts : List Tree) (es : List Pair)
    → subst_all x u (whole ts es) ≡ whole (map (subst x u) ts) (map (subst_pair x u) es)
subst_all-whole x u [] es = subst_all-sides x u es
subst_all-whole x u (t ∷ ts) es = ap (more_trees (subst x u t)) (subst_all-whole x u ts es)

pub length-map_subst : (x : ℕ) (u : Tree) (ts : List Tree) → length (map (subst x u) ts) ≡ length ts
length-map_subst x u [] = refl
length-map_subst x u (t ∷ ts) = ap suc (length-map_subst x u ts)

over-sides : (ss : List Symbol) (es : List Pair) → are_trees_over ss (sides es) ≡ list_all (is_pair_over ss) es
over-sides ss [] = refl
over-sides ss (p ∷ ps) = rw (over-sides ss ps) (sym (and_assoc (is_tree_over ss p.left) (is_tree_over ss p.right) (list_all (is_pair_over ss) ps)))

pub over-whole : (ss : List Symbol) (ts : List Tree) (es : List Pair)
    → are_trees_over ss (whole ts es) ≡ (list_all (is_tree_over ss) ts && list_all (is_pair_over ss) es)
over-whole ss [] es = over-sides ss es
over-whole ss (t ∷ ts) es = rw (over-whole ss ts es) (sym (and_assoc (is_tree_over ss t) (list_all (is_tree_over ss) ts) (list_all (is_pair_over ss) es)))
