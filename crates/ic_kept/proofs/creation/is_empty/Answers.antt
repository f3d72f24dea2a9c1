use Rattle.ic_kept.proofs.ReadLemmas.{reads_once}
use Rattle.ic_kept.proofs.creation.is_empty.Goals as goal

pub returns-in_err-len-clause-reads : goal.returns-in_err-len-clause-reads
returns-in_err-len-clause-reads g c keeps =
    let disk = g.D.Disk in
    let old = c.args.disk.now in
    let len = c.len.ensures.unchanged keeps in
    reads_once disk.keeps disk.content disk.image disk.clock disk.left old c.len.new.self (λ file left. g.met.D.Disk.left_is_image old file left) c.len.ensures.keeps len.same len.images len.time

pub returns-clause-reads : goal.returns-clause-reads
returns-clause-reads g c keeps =
    let disk = g.D.Disk in
    let old = c.args.disk.now in
    let len = c.len.ensures.unchanged keeps in
    reads_once disk.keeps disk.content disk.image disk.clock disk.left old c.len.new.self (λ file left. g.met.D.Disk.left_is_image old file left) c.len.ensures.keeps len.same len.images len.time
