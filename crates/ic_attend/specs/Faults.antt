-- What the faults of an attendance say.
use Rattle.std.specs.Prelude.{◌≡◌, ◌≢◌, ◌⊎◌, ℕ, List, [], Result, Ok, Err, IsTrue, length}
use Rattle.std.specs.List.{All, AllZip}
use Rattle.ic_disk.specs.declared.disk.Disk.{Ghosts}
use Rattle.ic_frames.specs.Faults.{CountsOpen}
use Rattle.ic_frames.specs.Opening.{LeavesAsFound}
use Rattle.ic_frames.specs.declared.faults.OpenFault.{OpenFault}
use Rattle.ic_jobs.specs.declared.command.Command.{Command}
use Rattle.ic_jobs.specs.Job.{JobParts}
use Rattle.ic_slots.specs.Held.{IsHeld, the_table}
use Rattle.ic_slots.specs.Opening.{Says}
use Rattle.ic_book.specs.declared.book.Book.{Book}
use Rattle.ic_book.specs.Book.{disk_of, start_of, log_of, table_of}
use Rattle.ic_attend.specs.declared.attended.Attended.{Attended}
use Rattle.ic_attend.specs.declared.fault.AttendFault.{AttendFault}
use Rattle.ic_attend.specs.declared.fault.AttendFault.TheVariants.{Open, NoThread, Memory, Torn}
use Rattle.ic_attend.specs.Clients.{Follows, KeepsTo}
use Rattle.ic_attend.specs.OneHistory.{IsOneHistory}
use Rattle.ic_attend.specs.Ends.{EndMayBe, EndsTell}

-- where the disk wasn't opened, this holds of the refusal
abbrev pub IfUnopened : {D : Type 0} {ghosts : Ghosts D}
    → Result (Attended D ghosts) (AttendFault D ghosts) → (OpenFault D → Type 0) → Type 0
IfUnopened (Ok a) what = Unit {0}
IfUnopened (Err (Open fault)) what = what fault
IfUnopened (Err (NoThread a)) what = Unit {0}
IfUnopened (Err (Memory book)) what = Unit {0}
IfUnopened (Err (Torn a)) what = Unit {0}

-- where a thread could not be started, this holds of what the others left
abbrev pub IfStopped : {D : Type 0} {ghosts : Ghosts D}
    → Result (Attended D ghosts) (AttendFault D ghosts) → (Attended D ghosts → Type 0) → Type 0
IfStopped (Ok a) what = Unit {0}
IfStopped (Err (Open fault)) what = Unit {0}
IfStopped (Err (NoThread a)) what = what a
IfStopped (Err (Memory book)) what = Unit {0}
IfStopped (Err (Torn a)) what = Unit {0}

-- where memory was refused before any thread was started, this holds of the book
abbrev pub IfUnbegun : {D : Type 0} {ghosts : Ghosts D}
    → Result (Attended D ghosts) (AttendFault D ghosts) → (Book D ghosts → Type 0) → Type 0
IfUnbegun (Ok a) what = Unit {0}
IfUnbegun (Err (Open fault)) what = Unit {0}
IfUnbegun (Err (NoThread a)) what = Unit {0}
IfUnbegun (Err (Memory book)) what = what book
IfUnbegun (Err (Torn a)) what = Unit {0}

-- where the history isn't what the threads were answered, this holds of what is left
abbrev pub IfTorn : {D : Type 0} {ghosts : Ghosts D}
    → Result (Attended D ghosts) (AttendFault D ghosts) → (Attended D ghosts → Type 0) → Type 0
IfTorn (Ok a) what = Unit {0}
IfTorn (Err (Open fault)) what = Unit {0}
IfTorn (Err (NoThread a)) what = Unit {0}
IfTorn (Err (Memory book)) what = Unit {0}
IfTorn (Err (Torn a)) what = what a

-- The disk is handed back as the opening found it, and the refusal says what reads give.
pub record IsUnopened {D : Type 0} (ghosts : Ghosts D) (disk : D) (fault : OpenFault D)
    : Type 0 where
  pub found : LeavesAsFound {T = Unit {0}} ghosts.keeps ghosts.content ghosts.image
      ghosts.clock ghosts.left (Err fault.cause) disk fault.disk
  pub counted : CountsOpen {T = Unit {0}} (Err fault.cause)
      (ghosts.failures disk) (ghosts.failures fault.disk)
  pub says : IsTrue (ghosts.keeps disk) → Says fault.cause (ghosts.content disk)

-- The book is as it was opened: it has the table that the disk holds, and an empty log. Its disk is as
-- the opening found it.
pub record IsAsOpened {D : Type 0} {ghosts : Ghosts D} (disk : D) (book : Book D ghosts)
    : Type 0 where
  pub held : IsTrue (ghosts.keeps disk) → IsHeld (the_table (start_of book)) (ghosts.content disk)
  pub table : table_of book ≡ start_of book
  pub log : log_of book ≡ []
  pub found : LeavesAsFound ghosts.keeps ghosts.content ghosts.image ghosts.clock ghosts.left
      (Ok book) disk (disk_of book)

-- Each script's client was answered its first commands, or none, and was refused the next one
-- exactly where it has an end. Each runner has an end that may be a runner's.
pub record AreFollowed {D : Type 0} {ghosts : Ghosts D} (scripts : List (List Command))
    (runners turns workers : ℕ) (a : Attended D ghosts) : Type 0 where
  pub followed : AllZip Follows scripts a.answers.items
  pub counted : length a.ends.items ≡ runners
  pub may_be : All (EndMayBe turns workers) a.ends.items

-- Scripts were followed, and the book began with the table that the disk holds.
pub record IsStopped {D : Type 0} (ghosts : Ghosts D) (disk : D) (scripts : List (List Command))
    (runners turns workers : ℕ) (a : Attended D ghosts) : Type 0 where
  pub held : IsTrue (ghosts.keeps disk)
      → IsHeld (the_table (start_of a.book)) (ghosts.content disk)
  pub followed : AreFollowed scripts runners turns workers a

-- Scripts were followed, but the book began with another table.
pub record BeganOtherwise {D : Type 0} {ghosts : Ghosts D} (opening : List JobParts)
    (scripts : List (List Command)) (runners turns workers : ℕ) (a : Attended D ghosts)
    : Type 0 where
  pub other : start_of a.book ≢ opening
  pub followed : AreFollowed scripts runners turns workers a

-- Each client keeps to its script and each runner has an end that may be a runner's. But the book
-- began with another table, or its log isn't one history of them, or an end by a refusal isn't borne
-- out.
pub record Differs {D : Type 0} {ghosts : Ghosts D} (opening : List JobParts)
    (scripts : List (List Command)) (runners turns workers : ℕ) (a : Attended D ghosts)
    : Type 0 where
  pub scripts_kept : AllZip KeepsTo scripts a.answers.items
  pub counted : length a.ends.items ≡ runners
  pub may_be : All (EndMayBe turns workers) a.ends.items
  pub differs : start_of a.book ≡ opening → IsOneHistory scripts runners turns a
      → ¬ EndsTell workers a

-- It differs from what was attended on the table that the disk holds.
pub record IsTorn {D : Type 0} (ghosts : Ghosts D) (disk : D) (scripts : List (List Command))
    (runners turns workers : ℕ) (a : Attended D ghosts) : Type 0 where
  pub opening : List JobParts
  pub held : IsTrue (ghosts.keeps disk) → IsHeld (the_table opening) (ghosts.content disk)
  pub torn : BeganOtherwise opening scripts runners turns workers a
      ⊎ Differs opening scripts runners turns workers a
