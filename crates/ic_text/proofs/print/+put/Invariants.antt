use Rattle.std.proofs.Common.{◌≡◌, ◌++◌, true, drop, map}
use Rattle.ic_term.specs.Symbol.{are_trees_over}
use Rattle.ic_term.specs.Tree.{trees_of}
use Rattle.ic_term.specs.Term.{tree, cell_tree}
use Rattle.ic_text.specs.Source.{words}
use Rattle.ic_text.specs.Text.{source_of, sources_of, text_of}
use Rattle.ic_text.proofs.PrintLemmas.{arguments_from, sign_at}
use Rattle.ic_text.proofs.print.+put.Given as goal

-- what is written, and what is left after the next sign, are the whole
abbrev pub invariant-put_cell-loop-term : goal.invariant-put_cell-loop-term
invariant-put_cell-loop-term l = record {
  over : are_trees_over l.symbols (trees_of (map tree (drop l.term-index l.term-items))) ≡ true;
  signed : l.sign ≡ sign_at l.term-index;
  whole : l.out.items ++ text_of (arguments_from l.term-index (sources_of l.symbols (trees_of (map tree (drop l.term-index l.term-items)))))
      ≡ l.fn.out.items ++ text_of (words (source_of l.symbols (cell_tree l.cell)));
}
