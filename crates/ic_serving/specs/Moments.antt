-- What a call leaves, by its fault and by a crash in its midst.
use Rattle.std.specs.Prelude.{◌≡◌, ◌⊎◌, ℕ, List, false, Result, IfErr, OnOk}
use Rattle.ic_disk.specs.declared.disk.Disk.{Ghosts}
use Rattle.ic_disk.specs.Time.{LeavesOnly}
use Rattle.ic_jobs.specs.Job.{JobParts}
use Rattle.ic_book.specs.declared.book.Book.{Book}
use Rattle.ic_book.specs.Book.{disk_of, is_broken, number_of, table_of}
use Rattle.ic_serving.specs.declared.fault.ServeFault.{ServeFault}
use Rattle.ic_serving.specs.Faults.{CountsServe, StaysReady}
use Rattle.ic_book.specs.ByCalls.{IsOnMadeDisk}
use Rattle.ic_serving.specs.Booked.{last_kept}
use Rattle.ic_book.specs.ByCalls.{IsByCalls}
use Rattle.ic_serving.specs.Parts.{IsInLine}
use Rattle.ic_serving.specs.Stopped.{HoldsOne}

-- What a call over a book says of it by its answer. It has such faults, a failure of the disk is
-- counted exactly where `Device` tells it, and a book that wasn't broken is broken after `Device`
-- only.
pub record FaultLeaves {T : Type 0} {D : Type 0} {ghosts : Ghosts D} (may : ServeFault → Type 0)
    (result : Result T ServeFault) (old new : Book D ghosts) : Type 0 where
  pub causes : IfErr result may
  pub counted : CountsServe result (ghosts.failures (disk_of old)) (ghosts.failures (disk_of new))
  pub ready : is_broken old ≡ false → OnOk result (is_broken new ≡ false)
  pub breaks : is_broken old ≡ false
      → IfErr result (λ fault. StaysReady fault (is_broken new) (number_of new))

-- the disk keeps the model where it did, a made one stays made, and a crash at any moment leaves one
-- of these tables; all that was done is calls of the book
pub record Leaves {D : Type 0} {ghosts : Ghosts D} (old new : Book D ghosts)
    (tables : List JobParts → Type 0) : Type 0 where
  pub keeps : ghosts.keeps (disk_of new) ≡ ghosts.keeps (disk_of old)
  pub stays : IsOnMadeDisk old → IsOnMadeDisk new
  pub any_moment : IsOnMadeDisk old
      → LeavesOnly ghosts.clock ghosts.left (disk_of old) (disk_of new) (HoldsOne tables)
  pub done : IsByCalls old new

-- the table, or the one that was kept last
abbrev pub IsKeptOrNow : {D : Type 0} {ghosts : Ghosts D} → Book D ghosts → List JobParts → Type 0
IsKeptOrNow book u = (u ≡ last_kept book) ⊎ (u ≡ table_of book)

-- the table that was kept before a line, or one within it
abbrev pub IsKeptInLine : (t kept : List JobParts) (line : List ℕ) (u : List JobParts) → Type 0
IsKeptInLine t kept line u = (u ≡ kept) ⊎ IsInLine t line u
