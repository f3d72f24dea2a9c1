use Rattle.ic_text.specs.lemmas.NameLemmas.{name_number-name_text, name_text-name_number}
use Rattle.ic_text.specs.lemmas.NameTexts.{name_text-letter, name_text-digits, is_name-text}
use Rattle.ic_text.proofs.laws.names_are_their_texts.Goals as goal

pub returns : goal.returns
returns c = record {
  letter = name_text-letter;
  digits = name_text-digits;
  word = is_name-text;
  number = name_number-name_text;
  text = name_text-name_number;
}
