use Rattle.ic_text.specs.Text.{phrase_of}
use Rattle.ic_text.specs.lemmas.WrittenTokens.{tokens-phrase_words}
use Rattle.ic_text.proofs.laws.printed_spells.Goals as goal

pub returns : goal.returns
returns c = λ table config is. record { phrase = is; tokens = tokens-phrase_words (phrase_of table config) is }
