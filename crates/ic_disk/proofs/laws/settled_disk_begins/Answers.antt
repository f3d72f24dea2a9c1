use Rattle.ic_disk.proofs.ModelLemmas.{begins}
use Rattle.ic_disk.proofs.laws.settled_disk_begins.Goals as goal

pub returns : goal.returns
returns g c = let disk = g.D.Disk in begins disk.content disk.image c.args.disk.now (g.met.D.Disk.content_is_image c.args.disk.now)
