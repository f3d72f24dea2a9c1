use Rattle.ic_text.proofs.InTextOrder.{system_table-parts, symbols_in_text_order, phrase_symbols_in_text_order, names_in_text_order}
use Rattle.ic_text.proofs.laws.symbols_and_names_stand_as_in_the_text.Goals as goal

pub returns : goal.returns
returns c = record {
  parts = system_table-parts;
  system = symbols_in_text_order;
  config = phrase_symbols_in_text_order;
  names = names_in_text_order;
}
