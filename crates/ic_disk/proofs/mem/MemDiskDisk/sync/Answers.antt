use Rattle.ic_disk.proofs.HistoryLemmas.{disk_sync, sync_not_made}
use Rattle.ic_disk.proofs.mem.MemDiskDisk.sync.Goals as goal

pub returns-clause-syncs : goal.returns-clause-syncs
returns-clause-syncs c =
    let made = c.make_sync in
    disk_sync c.args.self.now made.result made.new.self made.ensures.ok (sync_not_made c.args.self.now made.new.self made.result made.ensures.err)
