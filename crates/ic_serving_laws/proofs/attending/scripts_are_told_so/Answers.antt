use Rattle.std.proofs.Common.{List}
use Rattle.std.specs.Prelude.{Result, Ok, Err, IsTrue, OnOk}
use Rattle.ic_disk.specs.declared.disk.Disk.{Ghosts}
use Rattle.ic_disk.specs.Images.{Within}
use Rattle.ic_jobs.specs.Job.{JobParts}
use Rattle.ic_slots.specs.Held.{IsHeld, the_table}
use Rattle.ic_scripts.specs.Attending.{HasTable}
use Rattle.ic_book.specs.Book.{disk_of, table_of}
use Rattle.ic_book.specs.declared.fault.BookFault.{BookFault}
use Rattle.ic_serving_laws.proofs.KeepLemmas.{no_keep_fault, when_kept}
use Rattle.ic_serving_laws.proofs.attending.scripts_are_told_so.Goals as goal

pub returns-clause-well : goal.returns-clause-well
returns-clause-well g c done a old new is = (is.told.well, is.told.written)

pub returns-clause-kept : goal.returns-clause-kept
returns-clause-kept g c done a old new is =
    when_kept a.book is.kept (g.D.Disk.failures (disk_of a.book)) (g.D.Disk.failures c.args.left.now) (no_keep_fault a.answers.items a.ends.items is.kept is.told.well) is.bears
    is.counted

-- what a keep leaves, in two parts
parts : {D : Type 0} (ghosts : Ghosts D) (t : List JobParts) (left : D) (kept : Result (Unit {0}) BookFault)
    → OnOk kept (IsTrue (ghosts.keeps left) → HasTable ghosts t left)
    → OnOk kept (IsTrue (ghosts.keeps left) → IsHeld (the_table t) (ghosts.content left) × Within (ghosts.image left) (IsHeld (the_table t)))
parts ghosts t left (Ok done) held = λ keeps. ((held keeps).held, (held keeps).images)
parts ghosts t left (Err fault) held = tt

pub returns-clause-holds : goal.returns-clause-holds
returns-clause-holds g c result a old new is =
    (is.bears, parts g.D.Disk (table_of a.book) c.args.left.now is.kept is.held)

pub returns-clause-first : goal.returns-clause-first
returns-clause-first g c runs faults fault old new is = (is.first, is.written)

pub returns-clause-part : goal.returns-clause-part
returns-clause-part g c runs faults fault old new is = (is.well, is.cause, is.written)

pub returns-clause-history : goal.returns-clause-history
returns-clause-history g c disk scripts runners turns workers a is = (is.history, is.tells)
