-- What a command line that is written means.
use Rattle.std.specs.Prelude.{ℕ, List, Bool, true, ◌&&◌, Option, None, Some, Result, Ok, Err, length, nat_lt, nat_le, if◌then◌else◌}
use Rattle.std.specs.Option.{option_map}
use Rattle.ic_rules.specs.System.{SystemParts}
use Rattle.ic_rules.specs.declared.job_name.TheConstants.{MAX_JOB_NAME}
use Rattle.ic_jobs.specs.declared.limits.TheConstants.{MAX_BUDGET}
use Rattle.ic_jobs.specs.declared.command.Command.{Command}
use Rattle.ic_jobs.specs.declared.command.Command.TheVariants as command
use Rattle.ic_commands.specs.declared.limits.TheConstants.{MAX_RUN}
use Rattle.ic_commands.specs.declared.line.Line.{Line}
use Rattle.ic_commands.specs.declared.line.Line.TheVariants.{Blank, Command as Asks, Run}
use Rattle.ic_commands.specs.declared.line.Verb.{Verb}
use Rattle.ic_commands.specs.declared.line.Verb.TheVariants.{Pause, Resume, Cancel, Fetch}
use Rattle.ic_text.specs.declared.fault.TextFault.{TextFault}
use Rattle.ic_text.specs.declared.fault.TextFault.TheVariants.{Limit}
use Rattle.ic_text.specs.Name.{number_in}
use Rattle.ic_text.specs.SystemSense.{system_sense}
use Rattle.ic_commands.specs.LineSource.{LinePhrase, nothing, submit, copy, about, list, run}

-- what is asked of the job of a name
abbrev pub asked : Verb → List ℕ → Command
asked Pause name = command.Pause name
asked Resume name = command.Resume name
asked Cancel name = command.Cancel name
asked Fetch name = command.Fetch name

-- A job's name that is too long passes a limit, so it comes before all but Syntax.
abbrev pub unless_long : List ℕ → Result Line TextFault → Result Line TextFault
unless_long name answer = if nat_le (length name) MAX_JOB_NAME then answer else Err Limit

-- a number is that of a budget, or there is none
abbrev pub fits_budget : Option (List ℕ) → Bool
fits_budget None = true
fits_budget (Some digits) = nat_lt 0 (number_in digits) && nat_le (number_in digits) MAX_BUDGET

-- A number of no budget passes a limit, so it comes before all but Syntax.
abbrev pub unless_unfit : Option (List ℕ) → Result Line TextFault → Result Line TextFault
unless_unfit most answer = if fits_budget most then answer else Err Limit

-- the submit of what a system means, or the refusal of the system
abbrev pub submitted : List ℕ → Option ℕ → Result SystemParts TextFault → Result Line TextFault
submitted name budget (Ok system) = Ok (Asks (command.Submit name system budget))
submitted name budget (Err fault) = Err fault

-- what a line means, or its first refusal
abbrev pub line_sense : LinePhrase → Result Line TextFault
line_sense nothing = Ok Blank
line_sense (submit name most s) = unless_long name
    (unless_unfit most (submitted name (option_map number_in most) (system_sense s)))
line_sense (copy old new) =
    unless_long old (unless_long new (Ok (Asks (command.CopyJob old new))))
line_sense (about verb name) = unless_long name (Ok (Asks (asked verb name)))
line_sense list = Ok (Asks command.List)
line_sense (run digits) =
    if nat_le (number_in digits) MAX_RUN then Ok (Run (number_in digits)) else Err Limit
