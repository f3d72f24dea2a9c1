use Rattle.ic_text.specs.SystemSource.{IsSystemPhrase, system_words}
use Rattle.ic_text.specs.SystemSense.{system_sense_within}
use Rattle.ic_text.specs.lemmas.ReadOnce.{one_phrase, one_answer, some_answer}
use Rattle.ic_text.proofs.OneSystem.{told_systems}
use Rattle.ic_text.proofs.laws.one_system_reading.Goals as goal

pub returns : goal.returns
returns c = record {
  source = one_phrase IsSystemPhrase system_words told_systems;
  answer = λ limits. one_answer IsSystemPhrase system_words told_systems limits (system_sense_within limits);
  total = λ limits. some_answer IsSystemPhrase system_words told_systems limits (system_sense_within limits);
}
