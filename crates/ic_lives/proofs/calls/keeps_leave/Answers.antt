use Rattle.std.proofs.Common.{List, subst}
use Rattle.ic_jobs.specs.Job.{JobParts}
use Rattle.ic_slots.specs.Held.{IsHeld, the_table}
use Rattle.ic_book.specs.Book.{disk_of}
use Rattle.ic_lives.proofs.calls.keeps_leave.Goals as goal

pub returns-clause-kept : goal.returns-clause-kept
returns-clause-kept g c done is = (is.ready, is.table)

pub returns-clause-held : goal.returns-clause-held
returns-clause-held g c done is model = subst (λ (t : List JobParts). IsHeld (the_table t) (g.D.Disk.content (disk_of c.args.new.now))) is.table (is.held model)

pub returns-clause-made : goal.returns-clause-made
returns-clause-made g c done is model some = is.made_now model some

pub returns-clause-failed : goal.returns-clause-failed
returns-clause-failed g c fault is = (is.table, is.unkept)

pub returns-clause-worn : goal.returns-clause-worn
returns-clause-worn g c result is worn = is.0 worn
