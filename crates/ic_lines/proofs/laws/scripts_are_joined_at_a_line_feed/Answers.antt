use Rattle.ic_lines.proofs.ScriptLaws.{script_joined, script_stopped}
use Rattle.ic_lines.proofs.laws.scripts_are_joined_at_a_line_feed.Goals as goal

pub returns : goal.returns
returns c = record {
  commands = script_joined;
  fault = script_stopped c.one_script_line_reading.ensures.total;
}
