use Rattle.ic_disk.specs.Model.{sync}
use Rattle.ic_disk.specs.FuseDisk.{disk_of, next_turn}
use Rattle.ic_disk.proofs.FuseLemmas.{answers_ok, sync_answers_err}
use Rattle.ic_disk.proofs.HistoryLemmas.{disk_sync}
use Rattle.ic_disk.proofs.fuse.FuseDiskDisk.sync.Goals as goal

pub returns-clause-syncs : goal.returns-clause-syncs
returns-clause-syncs c =
    let made = c.make_sync in
    let turn = next_turn c.args.self.now in
    let old = disk_of c.args.self.now in
    let new = disk_of made.new.self in
    disk_sync old made.result new (answers_ok turn sync made.result old new made.ensures.fuse) (sync_answers_err turn made.result old new made.ensures.fuse)
