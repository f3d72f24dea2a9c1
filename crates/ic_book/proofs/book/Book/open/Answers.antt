use Rattle.std.proofs.Common.{sym, ◌∙◌}
use Rattle.ic_book.proofs.DiskLemmas.{found_now}
use Rattle.ic_book.proofs.book.Book.open.Goals as goal

pub invariant_of-result-clause-on_disk : goal.invariant_of-result-clause-on_disk
invariant_of-result-clause-on_disk g c keeps_new =
    let disk = g.D.Disk in
    let found = c.in-Ok.keeper.frames.disk in
    let crash = c.in-Ok.ensures.crash in
    let keeps = sym crash.keeps ∙ keeps_new in
    found_now (disk.content c.args.disk) (disk.content found) (disk.image found) c.in-Ok-copy.start c.new.result.entries.items c.in-Ok.keeper.frames.broken c.in-Ok.table
    c.in-Ok-copy.ensures (crash.same keeps) (c.in-Ok.ensures.opened keeps) (crash.synced keeps (λ failed. cc))
