use Rattle.ic_commands.proofs.PlainLines.{has_line}
use Rattle.ic_commands.proofs.laws.each_command_has_a_line.Goals as goal

pub returns : goal.returns
returns c = has_line
