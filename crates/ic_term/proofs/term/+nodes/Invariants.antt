use Rattle.std.proofs.Common.{◌≡◌, ◌+◌, ◌-◌, ◌^◌, ◌<◌, min, drop, map}
use Rattle.ic_term.specs.Tree.{nodes, nodes_of, trees_of}
use Rattle.ic_term.specs.Term.{tree, cell_tree}
use Rattle.ic_term.proofs.term.+nodes.Given as goal

-- what is counted so far and the nodes of what is left are those of the whole
abbrev pub invariant-Cell::nodes-loop-term : goal.invariant-Cell::nodes-loop-term
invariant-Cell::nodes-loop-term l =
    (min (l.count + nodes_of (trees_of (map tree (drop l.term-index l.term-items)))) (2 ^ 64 - 1) ≡ min (nodes (cell_tree l.self)) (2 ^ 64 - 1))
    × (l.count < 2 ^ 64)
