-- What clients and runners leave, over disks of one kind.
use Rattle.std.specs.Prelude.{ℕ, ◌≤◌, List, length, take}
use Rattle.ic_disk.specs.declared.disk.Disk.{Ghosts}
use Rattle.ic_jobs.specs.History.{replay}
use Rattle.ic_slots.specs.Held.{HoldsTable}
use Rattle.ic_book.specs.declared.book.Book.{Book}
use Rattle.ic_book.specs.Book.{kept_of, log_of, start_of}
use Rattle.ic_attend.specs.declared.attended.Attended.{Attended}

-- what they leave, over such a disk
abbrev pub AttendedOver : {D : Type 0} → Ghosts D → Type 0
AttendedOver {D} ghosts = Attended D ghosts

-- a made file that holds the table after a front of the book's log, with all that is kept
abbrev pub HoldsFrontOf : {D : Type 0} {ghosts : Ghosts D} → Book D ghosts → List ℕ → Type 0
HoldsFrontOf book file = (k : ℕ) × (kept_of book ≤ k) × (k ≤ length (log_of book))
    × HoldsTable (replay (start_of book) (take k (log_of book))) file
