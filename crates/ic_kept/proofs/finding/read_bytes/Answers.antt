use Rattle.ic_kept.proofs.ReadLemmas.{reads_once}
use Rattle.ic_kept.proofs.finding.read_bytes.Goals as goal

pub returns-in_err-read-clause-reads : goal.returns-in_err-read-clause-reads
returns-in_err-read-clause-reads g c keeps =
    let disk = g.D.Disk in
    let old = c.args.disk.now in
    let read = c.read.ensures.unchanged keeps in
    reads_once disk.keeps disk.content disk.image disk.clock disk.left old c.read.new.self (λ file left. g.met.D.Disk.left_is_image old file left) c.read.ensures.keeps read.same read.images read.time

pub returns-clause-reads : goal.returns-clause-reads
returns-clause-reads g c keeps =
    let disk = g.D.Disk in
    let old = c.args.disk.now in
    let read = c.read.ensures.unchanged keeps in
    reads_once disk.keeps disk.content disk.image disk.clock disk.left old c.read.new.self (λ file left. g.met.D.Disk.left_is_image old file left) c.read.ensures.keeps read.same read.images read.time
