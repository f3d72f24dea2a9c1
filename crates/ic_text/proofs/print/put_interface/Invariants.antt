use Rattle.std.proofs.Common.{◌≡◌, ◌++◌, true, drop, map}
use Rattle.std.specs.List.{list_all}
use Rattle.ic_term.specs.Symbol.{is_tree_over}
use Rattle.ic_term.specs.Term.{tree}
use Rattle.ic_text.specs.declared.token.Mark.TheVariants.{Comma}
use Rattle.ic_text.specs.Source.{words, separated}
use Rattle.ic_text.specs.Text.{source_of, text_of}
use Rattle.ic_text.specs.lemmas.Separated.{separated_from}
use Rattle.ic_text.proofs.print.put_interface.Given as goal

-- what is written and what is left are the whole
abbrev pub invariant-loop-place : goal.invariant-loop-place
invariant-loop-place l = record {
  over : list_all (is_tree_over l.symbols) (map tree (drop l.place l.terms)) ≡ true;
  whole : l.out.items ++ text_of (separated_from Comma l.place (map words (map (source_of l.symbols) (map tree (drop l.place l.terms)))))
      ≡ l.fn.out.items ++ text_of (separated Comma (map words (map (source_of l.symbols) (map tree l.terms))));
}
