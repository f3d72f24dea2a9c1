use Rattle.std.proofs.Common.{◌≡◌, drop, map}
use Rattle.ic_term.specs.Tree.{names, names_of, trees_of}
use Rattle.ic_term.specs.Term.{tree, cell_tree}
use Rattle.ic_settle.specs.Settling.{occurs}
use Rattle.ic_reference.proofs.applicability.+occurs.Given as goal

-- the name occurs in what is left where it occurs in the whole
abbrev pub invariant-occurs_in_cell-loop-term : goal.invariant-occurs_in_cell-loop-term
invariant-occurs_in_cell-loop-term l =
    occurs l.name (names_of (trees_of (map tree (drop l.term-index l.term-items)))) ≡ occurs l.name (names (cell_tree l.cell))
