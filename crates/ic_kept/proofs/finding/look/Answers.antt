use Rattle.std.proofs.Common.{◌∙◌}
use Rattle.ic_kept.proofs.ReadLemmas.{reads_then}
use Rattle.ic_kept.proofs.finding.look.Goals as goal

pub returns-in_err-head-clause-reads : goal.returns-in_err-head-clause-reads
returns-in_err-head-clause-reads g c keeps =
    let disk = g.D.Disk in
    reads_then disk.keeps disk.content disk.image disk.clock disk.left c.args.disk.now c.measure.new.disk c.read_head.new.disk
    (c.measure.ensures.reads keeps) (c.read_head.ensures.reads (c.measure.ensures.keeps ∙ keeps))

pub returns-clause-reads : goal.returns-clause-reads
returns-clause-reads g c keeps =
    let disk = g.D.Disk in
    reads_then disk.keeps disk.content disk.image disk.clock disk.left c.args.disk.now c.measure.new.disk c.read_head.new.disk
    (c.measure.ensures.reads keeps) (c.read_head.ensures.reads (c.measure.ensures.keeps ∙ keeps))
