use Rattle.std.proofs.Common.{refl}
use Rattle.ic_lines.proofs.ScriptLaws.{script_once, script_somehow, script_no_memory, script_few}
use Rattle.ic_lines.proofs.laws.scripts_are_read_in_one_way.Goals as goal

pub returns : goal.returns
returns c =
    let law = c.one_script_line_reading.ensures in
    record {
      answer = script_once law.answer;
      total = script_somehow law.total;
      no_memory = script_no_memory law.no_memory;
      few = script_few;
      limit = refl;
    }
