-- For private functions: what a part of a batch leaves on its way.
use Rattle.std.specs.Prelude.{◌≡◌, ◌≤◌, ◌+◌, ◌*◌, min, List, ◌++◌, map}
use Rattle.ic_disk.specs.declared.disk.Disk.{Ghosts}
use Rattle.ic_jobs.specs.Job.{JobParts}
use Rattle.ic_book.specs.declared.book.Book.{Book}
use Rattle.ic_book.specs.Book.{disk_of, keeper_of, log_of, table_of}
use Rattle.ic_book.specs.Weight.{weight_of}
use Rattle.ic_book.specs.declared.limits.TheConstants.{SYSTEM_WEIGHT}
use Rattle.ic_serving.specs.Booked.{last_kept}
use Rattle.ic_serving.specs.Moments.{Leaves}
use Rattle.ic_batch.specs.declared.jobs.NewJob.{NewJob}
use Rattle.ic_batch.specs.Jobs.{begun_by}
use Rattle.ic_batch.specs.Calls.{come_to}
use Rattle.ic_batch.specs.Way.{missing, IsKeptOr}

-- The table is such a one. So is the one that is kept now, and each that a crash leaves, except for the
-- one that was kept before.
pub record Leads {D : Type 0} {ghosts : Ghosts D} (such : List JobParts → Type 0)
    (old new : Book D ghosts) : Type 0 where
  pub table : such (table_of new)
  pub kept : IsKeptOr (last_kept old) such (last_kept new)
  pub crash : Leaves old new (IsKeptOr (last_kept old) such)

-- the first of the jobs that were missing in a table follow it
pub record AreBegun (jobs : List NewJob) (old t : List JobParts) : Type 0 where
  pub front : List NewJob
  pub rest : List NewJob
  pub parted : missing old jobs ≡ front ++ rest
  pub table : t ≡ old ++ map begun_by front

-- the submits of the jobs that have come to the table stand in the log
abbrev pub AreInLog : {D : Type 0} {ghosts : Ghosts D} → (old new : Book D ghosts) → Type 0
AreInLog old new = weight_of (log_of new) ≡ weight_of (log_of old) + SYSTEM_WEIGHT * come_to (table_of old) (table_of new)

-- and no call to the disk was made
pub record HaveCome {D : Type 0} {ghosts : Ghosts D} (old new : Book D ghosts) : Type 0 where
  pub log : AreInLog old new
  pub keeper : keeper_of new ≡ keeper_of old

-- or at most six were made for all of them
pub record AreKept {D : Type 0} {ghosts : Ghosts D} (old new : Book D ghosts) : Type 0 where
  pub log : AreInLog old new
  pub clock : ghosts.clock (disk_of new)
      ≤ ghosts.clock (disk_of old) + 6 * min (come_to (table_of old) (table_of new)) 1
