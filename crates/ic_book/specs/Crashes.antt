-- What a crash in a call of a book leaves. This project's choice.
use Rattle.std.specs.Prelude.{◌≡◌, List, IsTrue}
use Rattle.ic_disk.specs.declared.disk.Disk.{Ghosts}
use Rattle.ic_disk.specs.Images.{Within}
use Rattle.ic_disk.specs.Time.{LeavesOnly}
use Rattle.ic_jobs.specs.declared.event.Entry.{Entry}
use Rattle.ic_frames.specs.Fields.{IsMade}
use Rattle.ic_book.specs.declared.book.Book.{Book}
use Rattle.ic_book.specs.Book.{start_of, kept_of, disk_of}
use Rattle.ic_book.specs.Left.{HoldsKeptOrAll}

-- The disk keeps the model where it did, and a made disk stays made. On a made one a crash at any
-- moment leaves the table that was kept, or the one after all entries of this log.
pub record LeavesKeptOrAll {D : Type 0} {ghosts : Ghosts D} (log : List Entry)
    (old new : Book D ghosts) : Type 0 where
  pub keeps : ghosts.keeps (disk_of new) ≡ ghosts.keeps (disk_of old)
  pub made : IsTrue (ghosts.keeps (disk_of old)) → Within (ghosts.image (disk_of old)) IsMade
      → Within (ghosts.image (disk_of new)) IsMade
  pub any_moment : IsTrue (ghosts.keeps (disk_of old))
      → Within (ghosts.image (disk_of old)) IsMade
      → LeavesOnly ghosts.clock ghosts.left (disk_of old) (disk_of new)
      (HoldsKeptOrAll (start_of old) log (kept_of old))
