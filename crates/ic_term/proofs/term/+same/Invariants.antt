use Rattle.std.proofs.Common.{◌≡◌, length, map, drop}
use Rattle.ic_term.specs.Tree.{trees_of, tree_eq, trees_eq}
use Rattle.ic_term.specs.Term.{tree, cell_tree}
use Rattle.ic_term.proofs.term.+same.Given as goal

-- the answer is that of the arguments left, as many on both sides
abbrev pub invariant-same_cell-loop-i : goal.invariant-same_cell-loop-i
invariant-same_cell-loop-i l =
    (trees_eq (trees_of (map tree (drop l.i l.left.args.items))) (trees_of (map tree (drop l.i l.right.args.items)))
    ≡ tree_eq (cell_tree l.left) (cell_tree l.right))
    × (length l.left.args.items ≡ length l.right.args.items)
