use Rattle.std.proofs.Common.{◌≡◌, ◌++◌, true, drop, map}
use Rattle.std.specs.List.{list_all}
use Rattle.ic_term.specs.Symbol.{is_pair_over}
use Rattle.ic_term.specs.Term.{pair}
use Rattle.ic_text.specs.declared.token.Mark.TheVariants.{Comma}
use Rattle.ic_text.specs.Source.{sides_words, separated}
use Rattle.ic_text.specs.Text.{sides_of, text_of}
use Rattle.ic_text.specs.lemmas.Separated.{separated_from}
use Rattle.ic_text.proofs.print.put_equations.Given as goal

-- what is written and what is left are the whole
abbrev pub invariant-loop-place : goal.invariant-loop-place
invariant-loop-place l = record {
  over : list_all (is_pair_over l.symbols) (map pair (drop l.place l.equations)) ≡ true;
  whole : l.out.items ++ text_of (separated_from Comma l.place (map sides_words (map (sides_of l.symbols) (map pair (drop l.place l.equations)))))
      ≡ l.fn.out.items ++ text_of (separated Comma (map sides_words (map (sides_of l.symbols) (map pair l.equations))));
}
