use Rattle.std.proofs.Common.{◌≡◌, ◌≤◌, drop, length, true, false}
use Rattle.ic_book.specs.Book.{disk_of, is_broken, table_of}
use Rattle.ic_serving.specs.Booked.{unkept_of, IsAllKept}
use Rattle.ic_batch.specs.Calls.{come_to}
use Rattle.ic_batch.specs.inner.Staying.{AreBegun, HaveCome, Leads}
use Rattle.ic_batch.proofs.CallLemmas.{RoomToCome}
use Rattle.ic_batch.proofs.NewLemmas.{AreSubmitted}
use Rattle.ic_batch.proofs.submitting.take_missing.Given as goal

-- those that were missing of the jobs so far are there, and no failure of the disk was told
abbrev pub invariant-loop-new : goal.invariant-loop-new
invariant-loop-new g l = record {
  so_far : AreSubmitted l.jobs (table_of l.fn.book) (drop l.new-index l.jobs) (table_of l.book);
  leads : Leads (AreBegun l.jobs (table_of l.fn.book)) l.fn.book l.book;
  counted : g.D.Disk.failures (disk_of l.book) ≡ g.D.Disk.failures (disk_of l.fn.book);
  ready : is_broken l.fn.book ≡ false → is_broken l.book ≡ false;
  broken : is_broken l.fn.book ≡ true → is_broken l.book ≡ true;
  come : RoomToCome l.fn.book (table_of l.book) → HaveCome l.fn.book l.book;
  few : IsAllKept l.fn.book → unkept_of l.book ≤ come_to (table_of l.fn.book) (table_of l.book);
  passed : IsAllKept l.fn.book → unkept_of l.book ≤ l.new-index;
  within : l.new-index ≤ length l.jobs;
}
