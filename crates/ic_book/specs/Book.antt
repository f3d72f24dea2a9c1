-- The parts of a book that clauses speak of.
use Rattle.std.specs.Prelude.{◌≡◌, ℕ, List, Bool}
use Rattle.ic_disk.specs.declared.disk.Disk.{Ghosts}
use Rattle.ic_jobs.specs.declared.event.Entry.{Entry}
use Rattle.ic_jobs.specs.Job.{JobParts}
use Rattle.ic_slots.specs.declared.keeper.Keeper.{Keeper}
use Rattle.ic_slots.specs.Keeper as keeper
use Rattle.ic_book.specs.declared.book.Book.{Book}

-- the table that it was opened with, or that its page begins with
abbrev pub start_of : {D : Type 0} {ghosts : Ghosts D} → Book D ghosts → List JobParts
start_of book = book.start

-- what has come since
abbrev pub log_of : {D : Type 0} {ghosts : Ghosts D} → Book D ghosts → List Entry
log_of book = book.log.entries.items

-- the table now
abbrev pub table_of : {D : Type 0} {ghosts : Ghosts D} → Book D ghosts → List JobParts
table_of book = book.table

-- how many of the entries are kept
abbrev pub kept_of : {D : Type 0} {ghosts : Ghosts D} → Book D ghosts → ℕ
kept_of book = book.kept

-- the keeper of its disk
abbrev pub keeper_of : {D : Type 0} {ghosts : Ghosts D} → Book D ghosts → Keeper D ghosts
keeper_of book = book.keeper

-- its disk
abbrev pub disk_of : {D : Type 0} {ghosts : Ghosts D} → Book D ghosts → D
disk_of book = keeper.disk_of book.keeper

-- a call to the disk has failed
abbrev pub is_broken : {D : Type 0} {ghosts : Ghosts D} → Book D ghosts → Bool
is_broken book = keeper.is_broken book.keeper

-- the number of the newest slot
abbrev pub number_of : {D : Type 0} {ghosts : Ghosts D} → Book D ghosts → ℕ
number_of book = keeper.number_of book.keeper

-- nothing has changed
pub record IsUnchanged {D : Type 0} {ghosts : Ghosts D} (old new : Book D ghosts) : Type 0 where
  pub same_start : start_of new ≡ start_of old
  pub same_log : log_of new ≡ log_of old
  pub same_table : table_of new ≡ table_of old
  pub same_kept : kept_of new ≡ kept_of old
  pub same_keeper : keeper_of new ≡ keeper_of old
