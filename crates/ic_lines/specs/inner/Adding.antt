-- For private functions: a line of a script after others.
use Rattle.std.specs.Prelude.{◌≡◌, ℕ, List, ◌++◌, None, Some, length}
use Rattle.std.specs.Option.{option_to_list}
use Rattle.ic_jobs.specs.declared.command.Command.{Command}
use Rattle.ic_text.specs.declared.fault.TextFault.{TextFault}
use Rattle.ic_commands.specs.ScriptSense.{ReadsScriptLine}
use Rattle.ic_lines.specs.Script.{ScriptLine, command_of, fault_after}

-- a line is read, and its command is added to those before
pub record AddsLine (line : List ℕ) (old new : List Command) : Type 0 where
  pub reading : ScriptLine
  pub read : ReadsScriptLine line reading
  pub unrefused : fault_after (length old) reading ≡ None
  pub added : new ≡ old ++ option_to_list (command_of reading)

-- a line is refused after these commands
pub record RefusesLine (line : List ℕ) (old : List Command) (fault : TextFault) : Type 0 where
  pub reading : ScriptLine
  pub read : ReadsScriptLine line reading
  pub refused : fault_after (length old) reading ≡ Some fault
