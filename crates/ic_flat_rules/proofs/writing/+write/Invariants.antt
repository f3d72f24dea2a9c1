use Rattle.std.proofs.Common.{◌≡◌, ◌+◌, ◌*◌, ◌++◌, drop, map}
use Rattle.std.specs.List.{flat_map}
use Rattle.ic_term.specs.Tree.{nodes}
use Rattle.ic_term.specs.Term.{tree, cell_tree}
use Rattle.ic_flat.specs.Words.{tree_words}
use Rattle.ic_flat_rules.proofs.writing.+write.Given as goal

abbrev pub decreases-write_term : goal.decreases-write_term
decreases-write_term l = 2 * nodes (tree l.term.now) + 1

abbrev pub decreases-write_cell : goal.decreases-write_cell
decreases-write_cell l = 2 * nodes (cell_tree l.cell.now)

-- the words so far and those of the arguments left are those of the whole
abbrev pub invariant-write_cell-loop-term : goal.invariant-write_cell-loop-term
invariant-write_cell-loop-term l =
    l.words.items ++ flat_map tree_words (map tree (drop l.term-index l.term-items)) ≡ l.fn.words.items ++ tree_words (cell_tree l.cell)
