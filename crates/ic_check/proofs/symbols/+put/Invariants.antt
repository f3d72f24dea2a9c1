use Rattle.std.proofs.Common.{◌≡◌, ◌++◌, drop, map}
use Rattle.ic_term.specs.Tree.{trees_of}
use Rattle.ic_term.specs.Term.{tree, cell_tree}
use Rattle.ic_confluence.specs.Agents.{symbols, symbols_of}
use Rattle.ic_check.proofs.symbols.+put.Given as goal

-- what is appended so far and the symbols of what is left are those of the whole
abbrev pub invariant-put_cell-loop-term : goal.invariant-put_cell-loop-term
invariant-put_cell-loop-term l = record {
  whole : l.out.items ++ symbols_of (trees_of (map tree (drop l.term-index l.term-items))) ≡ l.fn.out.items ++ symbols (cell_tree l.cell);
}
