use Rattle.std.proofs.Common.{◌≡◌, ◌≤◌, ◌+◌, ◌*◌, ◌/◌, ◌%◌, true, false}
use Rattle.ic_book.specs.Book.{table_of, disk_of, is_broken}
use Rattle.ic_lines.specs.Turns.{turns}
use Rattle.ic_serving.specs.Booked.{last_kept, unkept_of, IsAllKept}
use Rattle.ic_serving.specs.Parts.{IsKeptWithin}
use Rattle.ic_serving.specs.Grown.{HasRoom}
use Rattle.ic_serving.specs.Moments.{Leaves}
use Rattle.ic_serving.proofs.RunLemmas.{InRun}
use Rattle.ic_serving.proofs.PageLemmas.{PageInRun}
use Rattle.ic_serving.proofs.running.make_rounds.Given as goal

-- so many rounds were made, and a crash since the run began leaves a table within it
abbrev pub invariant-loop-made : goal.invariant-loop-made
invariant-loop-made g l = record {
  run : InRun (table_of l.fn.book) (last_kept l.fn.book) l.count l.made l.place (table_of l.book) (last_kept l.book);
  counted : g.D.Disk.failures (disk_of l.book) ≡ g.D.Disk.failures (disk_of l.fn.book);
  ready : is_broken l.fn.book ≡ false → is_broken l.book ≡ false;
  broken : is_broken l.fn.book ≡ true → is_broken l.book ≡ true;
  page : PageInRun l.limit l.count l.made l.place l.fn.book l.book;
  few_unkept : IsAllKept l.fn.book → unkept_of l.book ≤ l.made % l.every;
  calls : HasRoom l.limit (turns l.count 0 (table_of l.fn.book)) l.fn.book
      → g.D.Disk.clock (disk_of l.book) ≤ g.D.Disk.clock (disk_of l.fn.book) + 6 * (l.made / l.every);
  moments : Leaves l.fn.book l.book (IsKeptWithin (table_of l.fn.book) (last_kept l.fn.book) (turns l.count 0 (table_of l.fn.book)));
}
