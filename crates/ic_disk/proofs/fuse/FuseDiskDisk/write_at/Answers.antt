use Rattle.ic_disk.specs.Model.{Write, write}
use Rattle.ic_disk.specs.FuseDisk.{disk_of, next_turn}
use Rattle.ic_disk.proofs.FuseLemmas.{answers_ok, write_answers_err}
use Rattle.ic_disk.proofs.HistoryLemmas.{disk_write}
use Rattle.ic_disk.proofs.fuse.FuseDiskDisk.write_at.Goals as goal

pub returns-clause-writes : goal.returns-clause-writes
returns-clause-writes c =
    let w : Write = record { at = c.args.at; bytes = c.args.bytes.now } in
    let made = c.make_write in
    let turn = next_turn c.args.self.now in
    let old = disk_of c.args.self.now in
    let new = disk_of made.new.self in
    disk_write w old made.result new (answers_ok turn (write w) made.result old new made.ensures.fuse) (write_answers_err turn w made.result old new made.ensures.fuse)
