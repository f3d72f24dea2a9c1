use Rattle.ic_text.specs.SystemSource.{IsSystemPhrase, system_words}
use Rattle.ic_text.specs.declared.limits.Limits.TheVariants.{Served}
use Rattle.ic_text.specs.lemmas.ReadOnce.{IsTold, one_answer, some_answer}
use Rattle.ic_commands.specs.LineSource.{IsLine, line_words}
use Rattle.ic_commands.specs.ScriptSense.{script_sense}
use Rattle.ic_commands.proofs.LineTold.{told_lines}
use Rattle.ic_commands.proofs.NoMemory.{no_memory}
use Rattle.ic_commands.proofs.ScriptLines.{memory_reads}
use Rattle.ic_commands.proofs.laws.one_script_line_reading.Goals as goal

pub returns : goal.returns
returns c =
    let law = c.systems_are_told_by_their_tokens.ensures in
    let systems : IsTold IsSystemPhrase system_words = record {
      test = law.test.0;
      found = λ ts. (law.test.1 ts).0;
      only = λ ts. (law.test.1 ts).1;
      injective = law.one;
    } in
    let lines = told_lines systems in
    record {
      answer = one_answer IsLine line_words lines Served script_sense;
      total = some_answer IsLine line_words lines Served script_sense;
      no_memory = λ text reads. no_memory text (memory_reads text reads);
    }
