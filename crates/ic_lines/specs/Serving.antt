-- Lines that are served, from a table on.
use Rattle.std.specs.Prelude.{◌≡◌, ℕ, List, [], ◌∷◌, ◌++◌, Some, Ok, Err, length, codes}
use Rattle.std.specs.Fmt.{decimal}
use Rattle.ic_jobs.specs.Job.{JobParts}
use Rattle.ic_jobs.specs.declared.command.Command.{Command}
use Rattle.ic_jobs.specs.declared.event.Event.TheVariants.{Command as by_command}
use Rattle.ic_jobs.specs.Events.{Outcome, apply}
use Rattle.ic_text.specs.Text.{fault_text}
use Rattle.ic_commands.specs.declared.line.Line.TheVariants.{Blank, Command as Asks, Run}
use Rattle.ic_commands.specs.LineText.{ReadsLine}
use Rattle.ic_commands.specs.ReplyText.{reply_text}
use Rattle.ic_lines.specs.Lines.{ended}
use Rattle.ic_lines.specs.Turns.{turns, after_events}
use Rattle.ic_lines.specs.Answers.{Reading, after, out}

-- each line is read so, in turn
abbrev pub AreRead : List (List ℕ) → List Reading → Type 0
AreRead [] [] = Unit {0}
AreRead [] (r ∷ rs) = ⊥
AreRead (line ∷ ls) [] = ⊥
AreRead (line ∷ ls) (r ∷ rs) = ReadsLine line r × AreRead ls rs

-- Lines are served: this is answered to them, and they leave this table.
pub record IsServed (t : List JobParts) (ls : List (List ℕ)) (answers : List ℕ)
    (left : List JobParts) : Type 0 where
  pub readings : List Reading
  pub read : AreRead ls readings
  pub answered : answers ≡ out t readings
  pub leaves : left ≡ after t readings

-- a command has this outcome: its reply is answered, and this table is left
pub record IsCommandServed (t : List JobParts) (c : Command) (answers : List ℕ)
    (left : List JobParts) : Type 0 where
  pub outcome : Outcome
  pub is : apply t (by_command c) ≡ Some outcome
  pub answered : answers ≡ ended (reply_text outcome.reply)
  pub leaves : left ≡ outcome.table

-- This is answered to a line that is read so, and it leaves this table. Blanks are answered nothing and a refused line its
-- refusal, and both leave the table; a command is answered its reply, and a run how many rounds it made.
abbrev pub IsLineAnswered : List JobParts → Reading → List ℕ → List JobParts → Type 0
IsLineAnswered t (Ok Blank) answers left = (answers ≡ []) × (left ≡ t)
IsLineAnswered t (Ok (Asks c)) answers left = IsCommandServed t c answers left
IsLineAnswered t (Ok (Run k)) answers left =
    (answers ≡ ended (codes "ran " ++ decimal (length (turns k 0 t))))
    × (left ≡ after_events t (turns k 0 t))
IsLineAnswered t (Err fault) answers left = (answers ≡ ended (fault_text fault)) × (left ≡ t)
