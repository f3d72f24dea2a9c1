-- What a line of a script is read as (this project's choice). A script holds
-- commands, and a run is no phrase of it.
use Rattle.std.specs.Prelude.{ℕ, List, Option, None, Some, Result, Ok, Err}
use Rattle.ic_jobs.specs.declared.command.Command.{Command}
use Rattle.ic_commands.specs.declared.line.Line.{Line}
use Rattle.ic_commands.specs.declared.line.Line.TheVariants.{Blank, Command as Asks, Run}
use Rattle.ic_text.specs.declared.fault.TextFault.{TextFault}
use Rattle.ic_text.specs.declared.fault.TextFault.TheVariants.{Syntax}
use Rattle.ic_text.specs.Reading.{IsReading}
use Rattle.ic_commands.specs.LineSource.{LinePhrase, nothing, submit, copy, about, list, run}
use Rattle.ic_commands.specs.LineSense.{line_sense}
use Rattle.ic_commands.specs.LineText.{SpellsLine}

-- what a line asks, where it asks for no run: a command, or nothing
abbrev pub without_run : Result Line TextFault → Result (Option Command) TextFault
without_run (Ok Blank) = Ok None
without_run (Ok (Asks c)) = Ok (Some c)
without_run (Ok (Run k)) = Err Syntax
without_run (Err fault) = Err fault

-- What a line of a script means, or its first refusal. A run is no phrase here, whatever its number.
abbrev pub script_sense : LinePhrase → Result (Option Command) TextFault
script_sense (run digits) = Err Syntax
script_sense nothing = without_run (line_sense nothing)
script_sense (submit name most s) = without_run (line_sense (submit name most s))
script_sense (copy old new) = without_run (line_sense (copy old new))
script_sense (about verb name) = without_run (line_sense (about verb name))
script_sense list = without_run (line_sense list)

-- what a text of a line of a script is read as
abbrev pub ReadsScriptLine : List ℕ → Result (Option Command) TextFault → Type 0
ReadsScriptLine text answer = IsReading SpellsLine script_sense text answer
