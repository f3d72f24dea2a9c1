-- What lines ask for, leave and are answered (this project's choice).
use Rattle.std.specs.Prelude.{ℕ, List, [], ◌∷◌, ◌++◌, Result, Ok, Err, length, codes}
use Rattle.std.specs.List.{fold}
use Rattle.std.specs.Fmt.{decimal}
use Rattle.ic_jobs.specs.Job.{JobParts}
use Rattle.ic_jobs.specs.declared.event.Event.{Event}
use Rattle.ic_jobs.specs.declared.event.Event.TheVariants.{Command as by_command}
use Rattle.ic_jobs.specs.Events.{after_command}
use Rattle.ic_commands.specs.declared.line.Line.{Line}
use Rattle.ic_commands.specs.declared.line.Line.TheVariants.{Blank, Command, Run}
use Rattle.ic_text.specs.declared.fault.TextFault.{TextFault}
use Rattle.ic_text.specs.Text.{fault_text}
use Rattle.ic_commands.specs.ReplyText.{reply_text}
use Rattle.ic_lines.specs.Lines.{ended}
use Rattle.ic_lines.specs.Turns.{turns, after_events}

-- what a line is read as
abbrev pub Reading : Type 0
Reading = Result Line TextFault

-- the events that a line asks for; a refused line asks for none
abbrev pub events : List JobParts → Reading → List Event
events t (Ok Blank) = []
events t (Ok (Command c)) = by_command c ∷ []
events t (Ok (Run k)) = turns k 0 t
events t (Err fault) = []

-- the table that a line leaves
abbrev pub after_line : List JobParts → Reading → List JobParts
after_line t r = after_events t (events t r)

-- what a line is answered: nothing to a blank one, its reply to a command, the number of rounds and
-- halts to a run, and its refusal to a refused one
abbrev pub answer : List JobParts → Reading → List ℕ
answer t (Ok Blank) = []
answer t (Ok (Command c)) = ended (reply_text (after_command t c).reply)
answer t (Ok (Run k)) = ended (codes "ran " ++ decimal (length (turns k 0 t)))
answer t (Err fault) = ended (fault_text fault)

-- the table that lines leave, one after the other
abbrev pub after : List JobParts → List Reading → List JobParts
after t rs = fold after_line t rs

-- what lines are answered, one after the other
abbrev pub out : List JobParts → List Reading → List ℕ
out t [] = []
out t (r ∷ rs) = answer t r ++ out (after_line t r) rs
