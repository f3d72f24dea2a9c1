use Rattle.std.proofs.Common.{◌+◌, ◌*◌, drop, map}
use Rattle.ic_term.specs.Tree.{nodes, trees_of}
use Rattle.ic_term.specs.Term.{tree, cell_tree}
use Rattle.ic_codec.specs.inner.Room.{GoesOn}
use Rattle.ic_codec.specs.Terms.{tree_bytes, trees_bytes}
use Rattle.ic_codec.proofs.terms.+put.Given as goal

abbrev pub decreases-put_term : goal.decreases-put_term
decreases-put_term l = 2 * nodes (tree l.term.now) + 1

abbrev pub decreases-put_cell : goal.decreases-put_cell
decreases-put_cell l = 2 * nodes (cell_tree l.cell.now)

-- the arguments after these are left
abbrev pub invariant-put_cell-loop-term : goal.invariant-put_cell-loop-term
invariant-put_cell-loop-term l =
    GoesOn l.fn.out (tree_bytes (cell_tree l.cell)) l.out (trees_bytes (trees_of (map tree (drop l.term-index l.term-items))))
