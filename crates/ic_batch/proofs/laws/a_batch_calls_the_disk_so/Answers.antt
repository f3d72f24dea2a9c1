use Rattle.std.proofs.Common.{length}
use Rattle.ic_book.specs.Book.{disk_of, log_of, table_of}
use Rattle.ic_book.specs.Weight.{weight_of}
use Rattle.ic_batch.specs.Way.{all_of}
use Rattle.ic_batch.specs.Calls.{events_in}
use Rattle.ic_batch.proofs.CallLemmas.{calls_so, counted, to_none}
use Rattle.ic_batch.proofs.laws.a_batch_calls_the_disk_so.Goals as goal

pub returns-clause-way : goal.returns-clause-way
returns-clause-way g c = counted

pub returns-clause-short : goal.returns-clause-short
returns-clause-short g c = to_none

pub returns-clause-calls : goal.returns-clause-calls
returns-clause-calls g c jobs every submits events few longer is room = calls_so (weight_of (log_of c.args.old.now)) every submits events (length (table_of c.args.old.now)) (length (table_of c.args.new.now))
    (events_in (all_of jobs (table_of c.args.old.now)) (table_of c.args.new.now)) (g.D.Disk.clock (disk_of c.args.old.now)) (g.D.Disk.clock (disk_of c.args.new.now)) few longer is room
