-- A server and its steps, which are the calls of a book and the stops in their midst, and what it
-- reaches by them. This project's choice.
use Rattle.std.specs.Prelude.{◌≡◌, ◌⊎◌, ◌≤◌, List, ℕ, [], ◌∷◌, ◌++◌, Result, Ok, Err, true, false, IsTrue, IsErr, IsErrOf, IfOk, length}
use Rattle.ic_disk.specs.declared.disk.Disk.{Ghosts}
use Rattle.ic_disk.specs.Images.{Within}
use Rattle.ic_jobs.specs.declared.command.Command.{Command}
use Rattle.ic_jobs.specs.declared.event.Entry.{Entry}
use Rattle.ic_jobs.specs.declared.reply.Reply.{Reply}
use Rattle.ic_frames.specs.declared.faults.OpenCause.{OpenCause}
use Rattle.ic_frames.specs.declared.faults.OpenFault.{OpenFault}
use Rattle.ic_frames.specs.Faults.{CountsOpen}
use Rattle.ic_frames.specs.Fields.{IsMade}
use Rattle.ic_frames.specs.Opening.{LeavesAsFound}
use Rattle.ic_slots.specs.Held.{HoldsTable, IsHeld, the_table}
use Rattle.ic_slots.specs.Opening.{Says}
use Rattle.ic_book.specs.declared.book.Book.{Book}
use Rattle.ic_book.specs.declared.fault.BookFault.{BookFault}
use Rattle.ic_book.specs.declared.fault.BookFault.TheVariants.{Device}
use Rattle.ic_book.specs.Book.{start_of, log_of, table_of, kept_of, disk_of, is_broken}
use Rattle.ic_book.specs.Crashes.{LeavesKeptOrAll}
use Rattle.ic_book.specs.Left.{HoldsKeptOrAll}
use Rattle.ic_book.specs.Entries.{Adds, command_entry, round_entry}
use Rattle.ic_book.specs.Moves.{Move, opens, refuses, answers, fails, takes, rounds, keeps, stays, closes, stops, brings}

-- A server is down, and this disk will be found, or it is up over a book.
pub data Server {D : Type 0} (ghosts : Ghosts D) : Type 0 where
  down : D → Server ghosts
  up : Book D ghosts → Server ghosts

-- its disk
abbrev pub disk_in : {D : Type 0} {ghosts : Ghosts D} → Server ghosts → D
disk_in (down disk) = disk
disk_in (up book) = disk_of book

-- ---- calls of an open book

-- the page goes on by this entry, whose event leaves the new table
pub record GoesOn {D : Type 0} {ghosts : Ghosts D} (entry : Entry)
    (old new : Book D ghosts) : Type 0 where
  pub start : start_of new ≡ start_of old
  pub adds : Adds entry (log_of old) (log_of new) (table_of old) (table_of new)

-- the page stays as it is
pub record StaysOnPage {D : Type 0} {ghosts : Ghosts D} (old new : Book D ghosts) : Type 0 where
  pub start : start_of new ≡ start_of old
  pub log : log_of new ≡ log_of old
  pub table : table_of new ≡ table_of old

-- a new page begins with the table
pub record TurnsPage {D : Type 0} {ghosts : Ghosts D} (old new : Book D ghosts) : Type 0 where
  pub start : start_of new ≡ table_of old
  pub log : log_of new ≡ []
  pub table : table_of new ≡ table_of old

-- What a call makes of the page. At an answer and at a keep all is kept, and the book isn't broken. A
-- command at which the disk fails breaks it. Nothing more is kept by any other call.
abbrev pub MakesOfPage : {D : Type 0} {ghosts : Ghosts D}
    → Move → Book D ghosts → Book D ghosts → Type 0
MakesOfPage (answers who command reply) old new =
    GoesOn (command_entry who command reply) old new × (kept_of new ≡ length (log_of new))
    × (is_broken new ≡ false)
MakesOfPage (fails who command reply) old new =
    GoesOn (command_entry who command reply) old new × (kept_of new ≡ kept_of old)
    × (is_broken old ≡ false) × (is_broken new ≡ true)
MakesOfPage (takes who command reply) old new =
    GoesOn (command_entry who command reply) old new × (kept_of new ≡ kept_of old)
    × (is_broken new ≡ false)
MakesOfPage (rounds name reply) old new =
    GoesOn (round_entry name reply) old new × (kept_of new ≡ kept_of old)
MakesOfPage keeps old new =
    (StaysOnPage old new ⊎ TurnsPage old new) × (kept_of new ≡ length (log_of new))
    × (is_broken new ≡ false)
MakesOfPage stays old new = StaysOnPage old new × (kept_of new ≡ kept_of old)
MakesOfPage opens old new = ⊥
MakesOfPage (refuses cause) old new = ⊥
MakesOfPage closes old new = ⊥
MakesOfPage (stops move) old new = ⊥

-- A call of an open book: what it makes of the page, and that a broken book stays broken. A crash in
-- it leaves the table that was kept, or the one after the log and what the call brings.
pub record IsCall {D : Type 0} {ghosts : Ghosts D} (move : Move)
    (old new : Book D ghosts) : Type 0 where
  pub page : MakesOfPage move old new
  pub broken : is_broken old ≡ true → is_broken new ≡ true
  pub crash : LeavesKeptOrAll (log_of old ++ brings move) old new

-- ---- openings and closings

-- An opening finds the table that the disk holds. Reads give what they gave, and a crash now leaves
-- just this.
pub record Opens {D : Type 0} {ghosts : Ghosts D} (disk : D) (book : Book D ghosts) : Type 0 where
  pub leaves : LeavesAsFound ghosts.keeps ghosts.content ghosts.image ghosts.clock ghosts.left
      (Ok book) disk (disk_of book)
  pub held : IsTrue (ghosts.keeps disk) → IsHeld (the_table (start_of book)) (ghosts.content disk)
  pub log : log_of book ≡ []

-- One that is refused says what the disk holds, and reads give what they gave. A failure of the disk is
-- counted exactly where it is the cause.
pub record Refuses {D : Type 0} (ghosts : Ghosts D) (why : OpenCause)
    (disk after : D) : Type 0 where
  pub leaves : LeavesAsFound {T = Book D ghosts} ghosts.keeps ghosts.content ghosts.image
      ghosts.clock ghosts.left (Err why) disk after
  pub says : IsTrue (ghosts.keeps disk) → Says why (ghosts.content disk)
  pub counted : CountsOpen {T = Unit {0}} (Err why) (ghosts.failures disk) (ghosts.failures after)

-- The disk is handed out. On a made one a crash now leaves the table that was kept, or the one
-- after all entries.
pub record Closes {D : Type 0} {ghosts : Ghosts D} (book : Book D ghosts) (disk : D) : Type 0 where
  pub same : disk ≡ disk_of book
  pub images : IsTrue (ghosts.keeps disk) → Within (ghosts.image disk) IsMade
      → Within (ghosts.image disk) (HoldsKeptOrAll (start_of book) (log_of book) (kept_of book))

-- ---- steps

-- Between `before` and `after` a stop came, and `found` is the disk found then: at one moment since
-- `before` a crash may have left every image of `found`.
pub record IsFound {D : Type 0} (ghosts : Ghosts D) (before after found : D) : Type 0 where
  pub keeps : IsTrue (ghosts.keeps found)
  pub moment : ℕ
  pub since : ghosts.clock before ≤ moment
  pub left : Within (ghosts.image found) (ghosts.left after moment)

-- One move leads from one server to another. A stopped move would have led to some server, and a
-- disk is found on the way. A stop between two moves is `stops stays`.
abbrev pub Step : {D : Type 0} {ghosts : Ghosts D}
    → Move → Server ghosts → Server ghosts → Type 0
Step (stops (stops move)) before after = ⊥
Step opens (down disk) (up book) = Opens disk book
Step {ghosts = g} (refuses cause) (down disk) (down after) = Refuses g cause disk after
Step closes (up book) (down disk) = Closes book disk
Step stays (down disk) (down after) = after ≡ disk
Step {ghosts = g} (stops move) before (down found) =
    (after : Server g) × Step move before after × IsFound g (disk_in before) (disk_in after) found
Step move (up old) (up new) = IsCall move old new
Step move before after = ⊥

-- These moves lead from one server to another. The newest is first.
abbrev pub Runs : {D : Type 0} {ghosts : Ghosts D}
    → List Move → Server ghosts → Server ghosts → Type 0
Runs [] first last = last ≡ first
Runs {ghosts = g} (move ∷ moves) first last =
    (before : Server g) × Runs moves first before × Step move before last

-- A server is reached by these moves from a disk on which `create` has answered.
pub record Reaches {D : Type 0} {ghosts : Ghosts D} (moves : List Move)
    (server : Server ghosts) : Type 0 where
  pub disk : D
  pub keeps : IsTrue (ghosts.keeps disk)
  pub created : Within (ghosts.image disk) (HoldsTable [])
  pub runs : Runs moves (down disk) server

-- ---- which step a call is, by its answer

-- The disk is opened, or the opening is refused.
abbrev pub StepsByOpening : {D : Type 0} (ghosts : Ghosts D) (disk : D)
    → Result (Book D ghosts) (OpenFault D) → Type 0
StepsByOpening g disk (Ok book) = Step {ghosts = g} opens (down disk) (up book)
StepsByOpening g disk (Err fault) =
    Step {ghosts = g} (refuses fault.cause) (down disk) (down fault.disk)

-- A command is answered, or the disk fails at it, or nothing comes to the history.
pub record StepsByCommand {D : Type 0} {ghosts : Ghosts D} (who : ℕ) (command : Command)
    (result : Result Reply BookFault) (old new : Book D ghosts) : Type 0 where
  pub answered : IfOk result (λ reply. Step (answers who command reply) (up old) (up new))
  pub failed : IsErrOf result Device
      → (reply : Reply) × Step (fails who command reply) (up old) (up new)
  pub refused : IsErr result → ¬ IsErrOf result Device → Step stays (up old) (up new)

-- A command is taken and not kept yet; or it is answered as it stands, where nothing is to be kept.
-- Otherwise nothing comes to the history.
pub record StepsByTake {D : Type 0} {ghosts : Ghosts D} (who : ℕ) (command : Command)
    (result : Result Reply BookFault) (old new : Book D ghosts) : Type 0 where
  pub taken : IfOk result (λ reply. Step (takes who command reply) (up old) (up new)
      ⊎ Step (answers who command reply) (up old) (up new))
  pub refused : IsErr result → Step stays (up old) (up new)
