use Rattle.std.proofs.Common.{◌≡◌, ◌≤◌, ◌%◌, true, false}
use Rattle.ic_book.specs.Book.{disk_of, is_broken, table_of}
use Rattle.ic_serving.specs.Booked.{unkept_of, IsAllKept}
use Rattle.ic_batch.specs.Way.{AreWays}
use Rattle.ic_batch.specs.inner.Staying.{Leads}
use Rattle.ic_batch.proofs.CallLemmas.{HaveMade, RoomFor}
use Rattle.ic_batch.proofs.LeftLemmas.{left_in}
use Rattle.ic_batch.proofs.running.make_rounds.Given as goal

-- each job is on its way, and no failure of the disk was told
abbrev pub invariant-loop-place : goal.invariant-loop-place
invariant-loop-place g l = record {
  leads : Leads (AreWays l.most (table_of l.fn.book)) l.fn.book l.book;
  counted : g.D.Disk.failures (disk_of l.book) ≡ g.D.Disk.failures (disk_of l.fn.book);
  ready : is_broken l.fn.book ≡ false → is_broken l.book ≡ false;
  broken : is_broken l.fn.book ≡ true → is_broken l.book ≡ true;
  calls : RoomFor l.fn.book (table_of l.book) → HaveMade l.made l.every l.fn.book l.book;
  few_unkept : IsAllKept l.fn.book → unkept_of l.book ≤ l.made % l.every;
}

abbrev pub decreases-loop-place : goal.decreases-loop-place
decreases-loop-place g l = left_in l.most (table_of l.book)
