-- What scripts that are given to a disk come to, why they have no history, and what a keep after a history says and leaves
-- (this project's choice).
use Rattle.std.specs.Prelude.{◌≡◌, ◌≢◌, ℕ, ◌-◌, ◌^◌, ◌<◌, List, [], ◌∷◌, true, false, length, Result, Ok, Err, IsErr, IsErrOf, ◌⊎◌, Option, IsErrAnd, IsTrue, OnOk}
use Rattle.ic_disk.specs.declared.disk.Disk.{Ghosts}
use Rattle.ic_frames.specs.declared.faults.OpenFault.{OpenFault}
use Rattle.ic_jobs.specs.declared.command.Command.{Command}
use Rattle.ic_book.specs.declared.book.Book.{Book}
use Rattle.ic_book.specs.declared.fault.BookFault.{BookFault}
use Rattle.ic_book.specs.declared.fault.BookFault.TheVariants as of_book
use Rattle.ic_book.specs.Book.{disk_of, log_of, kept_of, is_broken, number_of, start_of, table_of}
use Rattle.ic_book.specs.Moves.{closes, keep_move}
use Rattle.ic_book.specs.Server.{Runs, down, up}
use Rattle.ic_attend.specs.declared.attended.Attended.{Attended}
use Rattle.ic_attend.specs.Faults.{IsAsOpened, IsStopped, IsTorn, IsUnopened}
use Rattle.ic_scripts.specs.declared.fault.ScriptsFault.{ScriptsFault}
use Rattle.ic_scripts.specs.declared.fault.ScriptsFault.TheVariants.{Read, Script, Open, NoThread, Torn, Book as by_book, Pool, Memory, Write}
use Rattle.std.specs.Io.KnownBytes.{Appends, Keeps}
use Rattle.ic_disk.specs.Images.{Within}
use Rattle.ic_jobs.specs.Job.{JobParts}
use Rattle.ic_slots.specs.Held.{IsHeld, the_table}
use Rattle.ic_book.specs.Refusals.{CountsBook}
use Rattle.ic_attend.specs.declared.attended.ClientRun.{ClientRun}
use Rattle.ic_attend.specs.Ends.{EndsTell}
use Rattle.ic_attend.specs.OneHistory.{IsOneHistory}
use Rattle.ic_scripts.specs.Telling.{IsFirstOf, faults_of, told}
use Rattle.ic_output.specs.Output.{AppendsFront}

-- Why there is no history, as `attend` says it: the disk wasn't opened, for this cause; a thread was
-- refused; what was gathered differs; or memory was refused over a book that was just opened. The disk
-- that is left is the one that the refusal handed back, or that of the book.
abbrev pub SaysWhy : {D : Type 0} (ghosts : Ghosts D) (disk : D) (scripts : List (List Command))
    (runners turns workers : ℕ) (left : D) → ScriptsFault → Type 0
SaysWhy {D = D} ghosts disk scripts runners turns workers left (Open cause) =
    (fault : OpenFault D) × (fault.cause ≡ cause) × IsUnopened ghosts disk fault
    × (left ≡ fault.disk)
SaysWhy {D = D} ghosts disk scripts runners turns workers left NoThread =
    (a : Attended D ghosts) × IsStopped ghosts disk scripts runners turns workers a
    × (left ≡ disk_of a.book)
SaysWhy {D = D} ghosts disk scripts runners turns workers left Torn =
    (a : Attended D ghosts) × IsTorn ghosts disk scripts runners turns workers a
    × (left ≡ disk_of a.book)
SaysWhy {D = D} ghosts disk scripts runners turns workers left Memory =
    (book : Book D ghosts) × IsAsOpened disk book × (left ≡ disk_of book)
SaysWhy ghosts disk scripts runners turns workers left Read = ⊥
SaysWhy ghosts disk scripts runners turns workers left (Script place refusal) = ⊥
SaysWhy ghosts disk scripts runners turns workers left (by_book fault) = ⊥
SaysWhy ghosts disk scripts runners turns workers left (Pool fault) = ⊥
SaysWhy ghosts disk scripts runners turns workers left Write = ⊥

-- the book may keep, and has what isn't kept yet
pub record WantsKeep {D : Type 0} {ghosts : Ghosts D} (book : Book D ghosts) : Type 0 where
  pub unbroken : is_broken book ≡ false
  pub unkept : kept_of book < length (log_of book)

-- What a keep says of the book before it. It is refused, in this order: the book is broken,
-- something is to be kept and the numbers of the slots are used up, the disk fails at it.
abbrev pub KeepTells : {T D : Type 0} {ghosts : Ghosts D} → Book D ghosts → Result T BookFault
    → Type 0
KeepTells book (Ok done) = is_broken book ≡ false
KeepTells book (Err of_book.Broken) = is_broken book ≡ true
KeepTells book (Err of_book.LogFull) = ⊥
KeepTells book (Err of_book.Worn) = WantsKeep book × (number_of book ≡ 2 ^ 64 - 1)
KeepTells book (Err of_book.Memory) = ⊥
KeepTells book (Err of_book.Device) = WantsKeep book × (number_of book ≢ 2 ^ 64 - 1)

-- The book is kept, with this answer, and closed, and this disk is left. These are moves of a
-- server: a stop in the keep, on a made disk, leaves the table that was kept before, or the one after
-- all entries, and so does a keep that fails. One that is refused without a call leaves the disk as
-- it was.
pub record IsKeptAndClosed {T D : Type 0} {ghosts : Ghosts D} (book : Book D ghosts)
    (kept : Result T BookFault) (left : D) : Type 0 where
  pub run : Runs (closes ∷ keep_move kept ∷ []) (up book) (down left)
  pub untouched : IsErr kept → ¬ IsErrOf kept of_book.Device → left ≡ disk_of book

-- All ended well, and each client is told all its answers.
pub record IsToldAll (runs : List ClientRun) (faults : List ScriptsFault)
    (old new : Option (List ℕ)) : Type 0 where
  pub well : faults ≡ []
  pub written : Appends old new (told runs)

-- Not all ended well, and this is the first fault. The clients are told their answers, or a front.
pub record IsToldFault (runs : List ClientRun) (faults : List ScriptsFault) (fault : ScriptsFault)
    (old new : Option (List ℕ)) : Type 0 where
  pub first : IsFirstOf {T = Unit {0}} faults (Err fault)
  pub written : AppendsFront old new [] (told runs)

-- All ended well, but not all answers could be written, or memory ran out for a line of them.
pub record IsToldPart (runs : List ClientRun) (faults : List ScriptsFault) (fault : ScriptsFault)
    (old new : Option (List ℕ)) : Type 0 where
  pub well : faults ≡ []
  pub cause : (fault ≡ Write) ⊎ (fault ≡ Memory)
  pub written : AppendsFront old new [] (told runs)

-- what clients are told where there are these faults, and which of them is told after that
abbrev pub IsToldOf : {T : Type 0} → List ClientRun → List ScriptsFault → Result T ScriptsFault
    → (old new : Option (List ℕ)) → Type 0
IsToldOf runs faults (Ok done) old new = IsToldAll runs faults old new
IsToldOf runs faults (Err fault) old new =
    IsToldFault runs faults fault old new ⊎ IsToldPart runs faults fault old new

-- reads of the disk give this table, and so do they after a crash
pub record HasTable {D : Type 0} (ghosts : Ghosts D) (table : List JobParts) (disk : D)
    : Type 0 where
  pub held : IsHeld (the_table table) (ghosts.content disk)
  pub images : Within (ghosts.image disk) (IsHeld (the_table table))

-- The faults are those of the clients, of the runners and of the keep after them. The keep ended as
-- the book that they left has it, and on the disk that it left a call more is counted as failed
-- exactly where it was `Device`. Nothing else was done to the book but to close it. At the keep's Ok
-- this disk has the table of the book.
pub record IsTold {T D : Type 0} {ghosts : Ghosts D} (a : Attended D ghosts) (left : D)
    (result : Result T ScriptsFault) (old new : Option (List ℕ)) : Type 0 where
  pub kept : Result (Unit {0}) BookFault
  pub bears : KeepTells a.book kept
  pub counted : CountsBook kept (ghosts.failures (disk_of a.book)) (ghosts.failures left)
  pub closed : IsKeptAndClosed a.book kept left
  pub held : OnOk kept (IsTrue (ghosts.keeps left) → HasTable ghosts (table_of a.book) left)
  pub told : IsToldOf a.answers.items (faults_of a.answers.items a.ends.items kept) result old new

-- One legal history of these scripts' clients and of so many runners, which goes on from the table
-- that the disk held. The answers of each client are its part of what is kept, and each refusal is
-- borne out by the book that is left.
pub record HasHistory {D : Type 0} {ghosts : Ghosts D} (disk : D) (scripts : List (List Command))
    (runners turns workers : ℕ) (a : Attended D ghosts) : Type 0 where
  pub start : IsTrue (ghosts.keeps disk)
      → IsHeld (the_table (start_of a.book)) (ghosts.content disk)
  pub history : IsOneHistory scripts runners turns a
  pub tells : EndsTell workers a

-- there is such a history, and its clients are told so
pub record IsToldHistory {T D : Type 0} (ghosts : Ghosts D) (disk : D)
    (scripts : List (List Command)) (runners turns workers : ℕ) (left : D)
    (result : Result T ScriptsFault) (old new : Option (List ℕ)) : Type 0 where
  pub attended : Attended D ghosts
  pub has : HasHistory disk scripts runners turns workers attended
  pub told : IsTold attended left result old new

-- what scripts that are given to a disk come to: a history that is told, or none, and then the fault
-- says why, and nothing is written
abbrev pub IsAttended : {T D : Type 0} (ghosts : Ghosts D) (disk : D)
    (scripts : List (List Command)) (runners turns workers : ℕ) (left : D)
    → Result T ScriptsFault → (old new : Option (List ℕ)) → Type 0
IsAttended ghosts disk scripts runners turns workers left result old new =
    IsToldHistory ghosts disk scripts runners turns workers left result old new
    ⊎ (IsErrAnd result (SaysWhy ghosts disk scripts runners turns workers left) × Keeps old new)
