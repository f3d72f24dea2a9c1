-- What a script is read as (this project's choice).
use Rattle.std.specs.Prelude.{◌≡◌, ◌⊎◌, ℕ, ◌+◌, ◌<◌, List, [], ◌∷◌, ◌++◌, Option, None, Some, Result, Ok, Err, length, nat_lt, if◌then◌else◌}
use Rattle.std.specs.List.{AllZip, filter_map}
use Rattle.std.specs.Option.{option_map, option_or}
use Rattle.ic_jobs.specs.declared.command.Command.{Command}
use Rattle.ic_text.specs.declared.fault.TextFault.{TextFault}
use Rattle.ic_text.specs.declared.fault.TextFault.TheVariants.{Limit}
use Rattle.ic_commands.specs.LineText.{IsSubmitText}
use Rattle.ic_commands.specs.ScriptSense.{ReadsScriptLine}
use Rattle.ic_lines.specs.declared.script.TheConstants.{MAX_SCRIPT}
use Rattle.ic_lines.specs.declared.script.ScriptFault.{ScriptFault}
use Rattle.ic_lines.specs.Lines.{lines}

-- what a line is read as: a command, nothing, or a refusal
abbrev pub ScriptLine : Type 0
ScriptLine = Result (Option Command) TextFault

-- the command of a line, where it has one
abbrev pub command_of : ScriptLine → Option Command
command_of (Ok command) = command
command_of (Err fault) = None

-- the commands of lines, in order
abbrev pub commands : List ScriptLine → List Command
commands rs = filter_map command_of rs

-- Why a line after so many commands is refused: for its own fault, or as its command is one too
-- many.
abbrev pub fault_after : ℕ → ScriptLine → Option TextFault
fault_after n (Err fault) = Some fault
fault_after n (Ok None) = None
fault_after n (Ok (Some command)) = if nat_lt n MAX_SCRIPT then None else Some Limit

-- a fault of the line after these
abbrev pub numbered : List ScriptLine → TextFault → ScriptFault
numbered before fault = record { line = length before + 1; fault = fault }

-- the first refusal among lines that follow others
abbrev pub first_fault : List ScriptLine → List ScriptLine → Option ScriptFault
first_fault before [] = None
first_fault before (r ∷ rs) =
    option_or (option_map (numbered before) (fault_after (length (commands before)) r))
    (first_fault (before ++ r ∷ []) rs)

-- these commands, unless there is a refusal
abbrev pub unless_refused : Option ScriptFault → List Command → Result (List Command) ScriptFault
unless_refused None found = Ok found
unless_refused (Some fault) found = Err fault

-- lines are read without a fault, each as a command or as nothing
abbrev pub AreAsked : List (List ℕ) → List (Option Command) → Type 0
AreAsked ls found = AllZip (λ line command. ReadsScriptLine line (Ok command)) ls found

-- a script is read so: by its lines, its commands in order, or its first refusal
pub record ReadsScript (text : List ℕ) (answer : Result (List Command) ScriptFault) : Type 0 where
  pub readings : List ScriptLine
  pub read : AllZip ReadsScriptLine (lines text) readings
  pub answered : answer ≡ unless_refused (first_fault [] readings) (commands readings)

-- A line at which memory may run out after so many commands: it spells a submit, or it asks for a
-- command that isn't one too many.
abbrev pub WantsMemory : ℕ → List ℕ → Type 0
WantsMemory many line = IsSubmitText line
    ⊎ ((command : Command) × ReadsScriptLine line (Ok (Some command)) × (many < MAX_SCRIPT))

-- Memory may run out at the line of a script with this number, counted from 1: the lines before it
-- are read, and none of them is refused.
pub record IsWanting (text : List ℕ) (number : ℕ) : Type 0 where
  pub before : List (List ℕ)
  pub line : List ℕ
  pub after : List (List ℕ)
  pub readings : List ScriptLine
  pub parted : lines text ≡ before ++ line ∷ after
  pub counted : number ≡ length before + 1
  pub read : AllZip ReadsScriptLine before readings
  pub unrefused : first_fault [] readings ≡ None
  pub wants : WantsMemory (length (commands readings)) line
