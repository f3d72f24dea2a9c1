use Rattle.std.proofs.Common.{[], arith}
use Rattle.ic_commands.specs.declared.line.Line.TheVariants.{Blank}
use Rattle.ic_lines.proofs.LineLemmas.{lines_first}
use Rattle.ic_lines.proofs.ScriptLaws.{script_asked, script_blank}
use Rattle.ic_lines.proofs.laws.scripts_hold_the_commands_of_their_lines.Goals as goal

pub returns : goal.returns
returns c = record {
  commands = script_asked;
  nothing = script_asked [] [] tt (omega arith);
  blank = λ line short blank unfed.
      script_blank line (lines_first line [] unfed) (c.script_lines_are_lines_without_runs.ensures.blank line (c.commands_ask.ensures.plain Blank line (short, blank)));
}
