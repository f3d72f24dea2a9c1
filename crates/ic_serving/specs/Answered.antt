-- What one line is answered, and what it leaves.
use Rattle.std.specs.Prelude.{◌≡◌, ◌≢◌, ◌⊎◌, ◌≤◌, ◌+◌, ◌-◌, ◌^◌, ℕ, List, [], ◌∷◌, ◌++◌, Ok, Err, false, map}
use Rattle.ic_disk.specs.declared.disk.Disk.{Ghosts}
use Rattle.ic_jobs.specs.declared.event.Event.TheVariants.{Command as by_command}
use Rattle.ic_jobs.specs.declared.reply.Reply.{Reply}
use Rattle.ic_commands.specs.LineText.{ReadsLine}
use Rattle.ic_commands.specs.ReplyText.{reply_text}
use Rattle.ic_lines.specs.Lines.{ended}
use Rattle.ic_commands.specs.declared.line.Line.TheVariants.{Blank, Command as Asks, Run}
use Rattle.ic_jobs.specs.declared.command.Command.{Command}
use Rattle.ic_lines.specs.Answers.{Reading, events, answer, after_line}
use Rattle.ic_lines.specs.Serving.{AreRead}
use Rattle.ic_book.specs.declared.book.Book.{Book}
use Rattle.ic_book.specs.Book.{disk_of, is_broken, number_of, table_of, IsUnchanged}
use Rattle.ic_book.specs.Moves.{Move, answers, takes, keeps}
use Rattle.ic_book.specs.ByCalls.{IsByCalls}
use Rattle.ic_serving.specs.declared.fault.ServeFault.{ServeFault}
use Rattle.ic_serving.specs.Booked.{Begins, IsAllKept}
use Rattle.ic_serving.specs.Faults.{ComesFor}
use Rattle.ic_serving.specs.Grown.{CallsFew, GoesOn, HasRoom, HasSpare}

-- what is kept where a line is answered: all, after a command and a run; a blank line and a refused
-- one change nothing
abbrev pub IsKeptFor : {D : Type 0} {ghosts : Ghosts D} → Reading → (old new : Book D ghosts) → Type 0
IsKeptFor (Ok Blank) old new = IsUnchanged old new
IsKeptFor (Ok (Asks command)) old new = IsAllKept new
IsKeptFor (Ok (Run count)) old new = IsAllKept new
IsKeptFor (Err fault) old new = IsUnchanged old new

-- where a command or a run is answered, the book isn't broken
abbrev pub IsWholeFor : {D : Type 0} {ghosts : Ghosts D} → Reading → (new : Book D ghosts) → Type 0
IsWholeFor (Ok Blank) new = Unit {0}
IsWholeFor (Ok (Asks command)) new = is_broken new ≡ false
IsWholeFor (Ok (Run count)) new = is_broken new ≡ false
IsWholeFor (Err fault) new = Unit {0}

-- and where a command is, the numbers of the slots weren't used up
abbrev pub IsFreshFor : {D : Type 0} {ghosts : Ghosts D} → Reading → (old : Book D ghosts) → Type 0
IsFreshFor (Ok Blank) old = Unit {0}
IsFreshFor (Ok (Asks command)) old = number_of old ≢ 2 ^ 64 - 1
IsFreshFor (Ok (Run count)) old = Unit {0}
IsFreshFor (Err fault) old = Unit {0}

-- it is made of calls of the book, and this was the last of them
pub record EndsWith {D : Type 0} {ghosts : Ghosts D} (move : Move) (old new : Book D ghosts) : Type 0 where
  pub done : IsByCalls old new
  pub earlier : List Move
  pub last : done.moves ≡ move ∷ earlier

-- a command is answered by the reply that the book gave to it, and these bytes are its line
pub record IsReplied {D : Type 0} {ghosts : Ghosts D} (command : Command) (bytes : List ℕ)
    (old new : Book D ghosts) : Type 0 where
  pub reply : Reply
  pub text : bytes ≡ ended (reply_text reply)
  pub made : EndsWith (answers 0 command reply) old new

-- A command is taken, and these bytes are the line of its reply. It isn't kept yet, unless nothing was
-- to be kept.
pub record IsTaken {D : Type 0} {ghosts : Ghosts D} (command : Command) (bytes : List ℕ)
    (old new : Book D ghosts) : Type 0 where
  pub reply : Reply
  pub text : bytes ≡ ended (reply_text reply)
  pub done : IsByCalls old new
  pub earlier : List Move
  pub last : (done.moves ≡ takes 0 command reply ∷ earlier)
      ⊎ (done.moves ≡ answers 0 command reply ∷ earlier)
  pub answer : bytes ≡ answer (table_of old) (Ok (Asks command))
  pub table : table_of new ≡ after_line (table_of old) (Ok (Asks command))

-- Commands are taken one after the other, and these bytes are the lines of their replies. What is done
-- after them leaves the table.
abbrev pub AreTaken : {D : Type 0} {ghosts : Ghosts D}
    → List Command → List ℕ → (first last : Book D ghosts) → Type 0
AreTaken [] bytes first last =
    (bytes ≡ []) × (table_of last ≡ table_of first) × IsByCalls first last
AreTaken {D} {ghosts} (command ∷ commands) bytes first last =
    (next : Book D ghosts) × (own : List ℕ) × (others : List ℕ) × (bytes ≡ own ++ others)
    × IsTaken command own first next × AreTaken commands others next last

-- What is done for a line is made of calls of the book: at a command the last of them answers it with
-- the reply whose line these bytes are, and at a run the last one keeps all.
abbrev pub IsDoneFor : {D : Type 0} {ghosts : Ghosts D} → Reading → List ℕ → (old new : Book D ghosts) → Type 0
IsDoneFor (Ok Blank) bytes old new = IsByCalls old new
IsDoneFor (Ok (Asks command)) bytes old new = IsReplied command bytes old new
IsDoneFor (Ok (Run count)) bytes old new = EndsWith keeps old new
IsDoneFor (Err fault) bytes old new = IsByCalls old new

-- a line is answered, what it leaves is kept, and its events stand at the end of the page
pub record IsAnswered {D : Type 0} {ghosts : Ghosts D} (limit : ℕ) (line bytes : List ℕ)
    (old new : Book D ghosts) : Type 0 where
  pub reading : Reading
  pub read : ReadsLine line reading
  pub answer : bytes ≡ answer (table_of old) reading
  pub table : table_of new ≡ after_line (table_of old) reading
  pub kept : IsKeptFor reading old new
  pub whole : IsWholeFor reading new
  pub fresh : IsFreshFor reading old
  pub page : HasRoom limit (events (table_of old) reading) old
      → GoesOn (events (table_of old) reading) old new
  pub done : IsDoneFor reading bytes old new

-- a line was begun: a front of its events has come to the table, and then this fault came
pub record IsBegun {D : Type 0} {ghosts : Ghosts D} (limit : ℕ) (line : List ℕ) (fault : ServeFault)
    (old new : Book D ghosts) : Type 0 where
  pub reading : Reading
  pub read : ReadsLine line reading
  pub comes : ComesFor (table_of old) reading (table_of new) fault
  pub begun : Begins limit (events (table_of old) reading) old new

-- so few calls to the disk are made for the events that a line asks for
pub record CallsFewFor {D : Type 0} {ghosts : Ghosts D} (limit : ℕ) (line : List ℕ) (every : ℕ)
    (old new : Book D ghosts) : Type 0 where
  pub reading : Reading
  pub read : ReadsLine line reading
  pub calls : CallsFew limit (events (table_of old) reading) every old new

-- these lines ask for these commands
abbrev pub AskFor : List (List ℕ) → List Command → Type 0
AskFor ls commands = AreRead ls (map (λ (command : Command). Ok (Asks command)) commands)

-- Lines are answered at once: the commands that they ask for are taken one after the other, and then
-- all is kept. Their events stand at the end of the page. Where this had room for one, no more calls to
-- the disk are made than one keep makes.
pub record IsGroupAnswered {D : Type 0} {ghosts : Ghosts D} (limit : ℕ) (ls : List (List ℕ)) (bytes : List ℕ)
    (old new : Book D ghosts) : Type 0 where
  pub commands : List Command
  pub asked : AskFor ls commands
  pub between : Book D ghosts
  pub taken : AreTaken commands bytes old between
  pub kept : EndsWith keeps between new
  pub table : table_of new ≡ table_of between
  pub all : IsAllKept new
  pub whole : is_broken new ≡ false
  pub fresh : number_of old ≢ 2 ^ 64 - 1
  pub page : HasRoom limit (map by_command commands) old → GoesOn (map by_command commands) old new
  pub calls : HasSpare limit old
      → ghosts.clock (disk_of new) ≤ ghosts.clock (disk_of old) + 6

-- Lines are answered at once: one line by itself, or such a group.
pub data AreAnsweredAtOnce {D : Type 0} {ghosts : Ghosts D} (limit : ℕ) (ls : List (List ℕ)) (bytes : List ℕ)
    (old new : Book D ghosts) : Type 0 where
  by_line : (line : List ℕ) → ls ≡ line ∷ [] → IsAnswered limit line bytes old new
      → AreAnsweredAtOnce limit ls bytes old new
  by_group : IsGroupAnswered limit ls bytes old new → AreAnsweredAtOnce limit ls bytes old new
