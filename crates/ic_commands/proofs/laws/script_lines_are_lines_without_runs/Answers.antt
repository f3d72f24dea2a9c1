use Rattle.ic_commands.proofs.ScriptLines.{reads_unless_run, reads_command, reads_blank, reads_numbered, any_run, run_alone}
use Rattle.ic_commands.proofs.laws.script_lines_are_lines_without_runs.Goals as goal

pub returns : goal.returns
returns c = record {
  other = reads_unless_run;
  command = reads_command;
  blank = reads_blank;
  run = reads_numbered;
  any_run = any_run;
  run_alone = run_alone;
}
