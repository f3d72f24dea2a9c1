use Rattle.ic_disk.specs.Model.{Write}
use Rattle.ic_disk.proofs.HistoryLemmas.{disk_write, write_not_made}
use Rattle.ic_disk.proofs.mem.MemDiskDisk.write_at.Goals as goal

pub returns-clause-writes : goal.returns-clause-writes
returns-clause-writes c =
    let w : Write = record { at = c.args.at; bytes = c.args.bytes.now } in
    let made = c.make_write in
    disk_write w c.args.self.now made.result made.new.self made.ensures.ok (write_not_made w c.args.self.now made.new.self made.result made.ensures.err)
