use Rattle.ic_lines.proofs.ScriptLaws.{script_refused, script_too_many}
use Rattle.ic_lines.proofs.laws.scripts_are_refused_at_their_first_fault.Goals as goal

pub returns : goal.returns
returns c = record {
  first = script_refused c.one_script_line_reading.ensures.total;
  too_many = script_too_many c.one_script_line_reading.ensures.total;
}
