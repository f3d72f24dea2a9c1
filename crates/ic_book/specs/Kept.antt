-- What a book keeps: its history in memory, and a table on its disk. This project's choice.
use Rattle.std.specs.Prelude.{◌≡◌, ℕ, ◌≤◌, List, Bool, false, length}
use Rattle.std.specs.List.{AllByRecursion}
use Rattle.ic_disk.specs.Images.{Within}
use Rattle.ic_jobs.specs.declared.event.Entry.{Entry}
use Rattle.ic_jobs.specs.Job.{JobParts}
use Rattle.ic_jobs.specs.Table.{IsTable}
use Rattle.ic_jobs.specs.History.{replay, IsLegal}
use Rattle.ic_frames.specs.Fields.{IsMade}
use Rattle.ic_slots.specs.Held.{IsHeld, the_table}
use Rattle.ic_book.specs.declared.limits.TheConstants.{MAX_ENTRIES}
use Rattle.ic_book.specs.Left.{table_kept, HoldsKeptOrAll}
use Rattle.ic_book.specs.Entries.{RoundHasSenderZero}

-- What a book keeps in memory. Replaying the log on the opening table gives the table and each
-- reply.
pub record IsHistory (start : List JobParts) (log : List Entry) (table : List JobParts)
    (kept : ℕ) (broken : Bool) : Type 0 where
  pub legal : IsLegal start log
  pub replayed : replay start log ≡ table
  pub short : length log ≤ MAX_ENTRIES
  pub within : kept ≤ length log
  pub round_senders : AllByRecursion RoundHasSenderZero log
  pub sound : IsTable (table_kept start log kept)

-- What a book keeps on a disk that keeps the model. Unless it is broken, reads and each image give
-- the table that was kept. If each image is made, each holds that table or the one after all
-- entries.
pub record IsOnDisk (content : List ℕ) (image : List ℕ → Type 0) (start : List JobParts)
    (log : List Entry) (kept : ℕ) (broken : Bool) : Type 0 where
  pub held : broken ≡ false → IsHeld (the_table (table_kept start log kept)) content
  pub holds : broken ≡ false → Within image (IsHeld (the_table (table_kept start log kept)))
  pub either : Within image IsMade
      → (file : List ℕ) → image file → ∥ HoldsKeptOrAll start log kept file ∥₁
