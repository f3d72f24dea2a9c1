use Rattle.std.proofs.Common.{◌∙◌}
use Rattle.ic_text.specs.lemmas.SymbolOrder.{any_text, first_is_next, later_is_known}
use Rattle.ic_text.proofs.laws.symbols_are_numbered_by_first_occurrence.Goals as goal

pub returns : goal.returns
returns c = record {
  first = λ before after s none. first_is_next before after s (any_text s.text before ∙ none);
  later = λ before s known. later_is_known before s (any_text s.text before ∙ known);
}
