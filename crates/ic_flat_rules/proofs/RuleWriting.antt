-- The words of an agent of a rule, and the nodes of its arguments.
use Rattle.std.proofs.Common.{◌≡◌, ℕ, ◌+◌, ◌<◌, List, [], ◌∷◌, ◌++◌, length, map, get_or, sum_by, refl, sym, ap, ◌∙◌, append_assoc, arith}
use Rattle.std.specs.List.{flat_map}
use Rattle.std.proofs.lemmas.List.{length-map}
use Rattle.std.proofs.lemmas.List.Sums.{sum_by-cons, get_or-le-sum_by}
use Rattle.ic_term.specs.declared.term.Term.{Term}
use Rattle.ic_term.specs.declared.term.Cell.{Cell, out-Cell}
use Rattle.ic_term.specs.Tree.{list_of, trees_of, nodes, nodes_of}
use Rattle.ic_term.specs.Term.{tree, cell_tree}
use Rattle.ic_term.specs.lemmas.TermLaws.{cell_tree-out}
use Rattle.ic_term.specs.lemmas.TreeLaws.{list_of-trees_of}
use Rattle.ic_flat.specs.declared.word.Word.{Word}
use Rattle.ic_flat.specs.declared.word.Word.TheVariants.{Agent}
use Rattle.ic_flat.specs.Words.{tree_words}
use Rattle.ic_flat.specs.lemmas.WordLaws.{trees_words-trees_of}

-- the word of an agent, and then the words of its arguments
pub cell-written : (old new : List Word) (c : Cell) (n : ℕ) (items : List Term) → n ≡ length (out-Cell c).args.items → items ≡ (out-Cell c).args.items
    → new ≡ old ++ Agent (out-Cell c).sym n ∷ [] → new ++ flat_map tree_words (map tree items) ≡ old ++ tree_words (cell_tree c)
cell-written old new c n items count same one =
    let s = (out-Cell c).sym in
    let args = (out-Cell c).args.items in
    (λ i. one i ++ flat_map tree_words (map tree (same i)))
    ∙ append_assoc old (Agent s n ∷ []) (flat_map tree_words (map tree args))
    ∙ ap (λ m. old ++ Agent s m ∷ flat_map tree_words (map tree args)) (count ∙ sym (length-map args tree) ∙ ap length (sym (list_of-trees_of (map tree args))))
    ∙ ap (λ l. old ++ Agent s (length (list_of (trees_of (map tree args)))) ∷ l) (sym (trees_words-trees_of (map tree args)))
    ∙ ap (λ t. old ++ tree_words t) (sym (cell_tree-out c))

arguments-nodes : (ts : List Term) → nodes_of (trees_of (map tree ts)) ≡ sum_by (λ t. nodes (tree t)) ts
arguments-nodes [] = refl
arguments-nodes (t ∷ ts) = ap (λ n. nodes (tree t) + n) (arguments-nodes ts) ∙ sym (sum_by-cons (λ u. nodes (tree u)) t ts)

-- an argument has fewer nodes than its agent
pub argument_nodes : (c : Cell) (i : ℕ) (t : Term) → i < length (out-Cell c).args.items → t ≡ get_or (out-Cell c).args.items i t
    → nodes (tree t) < nodes (cell_tree c)
argument_nodes c i t within is =
    let args = (out-Cell c).args.items in
    omega (
      arith,
      ap nodes (cell_tree-out c),
      arguments-nodes args,
      ap (λ u. nodes (tree u)) is,
      get_or-le-sum_by (λ u. nodes (tree u)) args i t within,
    )
