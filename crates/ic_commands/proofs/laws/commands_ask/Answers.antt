use Rattle.ic_commands.proofs.LineLaws.{about_long, submit_long_name, copy_long, submit_unfit, run_long}
use Rattle.ic_commands.proofs.PlainLines.{plain_line}
use Rattle.ic_commands.proofs.laws.commands_ask.Goals as goal

pub returns : goal.returns
returns c = record {
  plain = plain_line;
  too_long = about_long;
  too_long_submit = submit_long_name;
  too_long_copy = copy_long;
  no_budget = submit_unfit;
  too_many = run_long;
}
