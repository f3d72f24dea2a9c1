use Rattle.ic_commands.proofs.LineLaws.{submit_text, submit_number}
use Rattle.ic_commands.proofs.laws.a_submit_is_read_as_its_system.Goals as goal

pub returns : goal.returns
returns c = record { without = submit_text; with_budget = submit_number }
