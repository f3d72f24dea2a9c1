use Rattle.std.proofs.Common.{◌≡◌, drop, map}
use Rattle.ic_term.specs.Tree.{trees_of}
use Rattle.ic_term.specs.Term.{tree, cell_tree}
use Rattle.ic_term.specs.Symbol.{are_trees_over, is_tree_over}
use Rattle.ic_term.proofs.arities.+over.Given as goal

-- the answer is that of the arguments left
abbrev pub invariant-cell_over-loop-term : goal.invariant-cell_over-loop-term
invariant-cell_over-loop-term l =
    are_trees_over l.symbols (trees_of (map tree (drop l.term-index l.term-items))) ≡ is_tree_over l.symbols (cell_tree l.cell)
