use Rattle.ic_text.specs.Source.{IsPhrase, phrase_words}
use Rattle.ic_text.specs.Sense.{sense_within}
use Rattle.ic_text.specs.lemmas.ReadOnce.{one_phrase, one_answer, some_answer}
use Rattle.ic_text.proofs.OneReading.{told}
use Rattle.ic_text.proofs.laws.one_reading.Goals as goal

pub returns : goal.returns
returns c = record {
  source = one_phrase IsPhrase phrase_words told;
  answer = λ limits. one_answer IsPhrase phrase_words told limits (sense_within limits);
  total = λ limits. some_answer IsPhrase phrase_words told limits (sense_within limits);
}
