use Rattle.ic_text.specs.SystemSource.{IsSystemPhrase, system_words}
use Rattle.ic_text.specs.declared.limits.Limits.TheVariants.{Served}
use Rattle.ic_text.specs.lemmas.ReadOnce.{IsTold, one_phrase, one_answer, some_answer}
use Rattle.ic_commands.specs.LineSource.{IsLine, line_words}
use Rattle.ic_commands.specs.LineSense.{line_sense}
use Rattle.ic_commands.proofs.LineTold.{told_lines}
use Rattle.ic_commands.proofs.NoMemory.{no_memory}
use Rattle.ic_commands.proofs.laws.one_line_reading.Goals as goal

pub returns : goal.returns
returns c =
    let law = c.systems_are_told_by_their_tokens.ensures in
    let systems : IsTold IsSystemPhrase system_words = record {
      test = law.test.0;
      found = λ ts. (law.test.1 ts).0;
      only = λ ts. (law.test.1 ts).1;
      injective = law.one;
    } in
    let lines = told_lines systems in
    record {
      source = one_phrase IsLine line_words lines;
      answer = one_answer IsLine line_words lines Served line_sense;
      total = some_answer IsLine line_words lines Served line_sense;
      no_memory = no_memory;
    }
