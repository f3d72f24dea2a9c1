-- The arguments of an agent as a list.
use Rattle.std.proofs.Common.{◌≡◌, ◌≢◌, suc, Bool, true, false, ◌==◌, List, [], ◌∷◌, ◌&&◌, length, map, slice_get, refl, sym, ap, ◌∙◌}
use Rattle.std.proofs.lemmas.List.{length-map}
use Rattle.ic_term.specs.Tree.{Tree, trees_of, tree_eq, trees_eq}
use Rattle.ic_term.specs.lemmas.TreeLaws.{list_of-trees_of}
use Rattle.ic_term.specs.Term.{tree, cell_tree, term_step, cell_step}
use Rattle.ic_term.specs.Symbol.{Symbol, has_arity, is_tree_over, are_trees_over}
use Rattle.ic_term.specs.declared.term.Cell.{Cell, out-Cell, fold_out-Cell}

-- an agent is over symbols if its symbol has as many arguments as it, and these are over them
pub is_tree_over-cell : (ss : List Symbol) (cell : Cell) → is_tree_over ss (cell_tree cell)
    ≡ (has_arity (length (out-Cell cell).args.items) (slice_get ss (out-Cell cell).sym) && are_trees_over ss (trees_of (map tree (out-Cell cell).args.items)))
is_tree_over-cell ss cell =
    ap (is_tree_over ss) (fold_out-Cell Tree Tree term_step cell_step cell)
    ∙ ap (λ n. has_arity n (slice_get ss (out-Cell cell).sym) && are_trees_over ss (trees_of (map tree (out-Cell cell).args.items)))
    (ap length (list_of-trees_of (map tree (out-Cell cell).args.items)) ∙ length-map (out-Cell cell).args.items tree)

-- lists of different lengths differ
trees_eq-lengths : (ts us : List Tree) → length ts ≢ length us → trees_eq (trees_of ts) (trees_of us) ≡ false
trees_eq-lengths [] [] apart = absurd (apart refl)
trees_eq-lengths [] (u ∷ us) apart = refl
trees_eq-lengths (t ∷ ts) [] apart = refl
trees_eq-lengths (t ∷ ts) (u ∷ us) apart = elim (tree_eq t u) as (λ b. (b && trees_eq (trees_of ts) (trees_of us)) ≡ false) [
  | true ↦ trees_eq-lengths ts us (λ e. apart (ap suc e))
  | false ↦ refl
]

-- agents with different numbers of arguments differ
pub tree_eq-lengths : (b c : Cell) → length (out-Cell b).args.items ≢ length (out-Cell c).args.items → tree_eq (cell_tree b) (cell_tree c) ≡ false
tree_eq-lengths b c apart =
    let xs = map tree (out-Cell b).args.items in
    let ys = map tree (out-Cell c).args.items in
    let lengths : length xs ≢ length ys = λ e. apart (sym (length-map (out-Cell b).args.items tree) ∙ e ∙ length-map (out-Cell c).args.items tree) in
    let unequal = trees_eq-lengths xs ys lengths in
    rw (fold_out-Cell Tree Tree term_step cell_step b, fold_out-Cell Tree Tree term_step cell_step c) (and_false ((out-Cell b).sym == (out-Cell c).sym) (trees_eq (trees_of xs) (trees_of ys)) unequal)
  where
    and_false : (p q : Bool) → q ≡ false → (p && q) ≡ false
    and_false true q e = e
    and_false false q e = refl
