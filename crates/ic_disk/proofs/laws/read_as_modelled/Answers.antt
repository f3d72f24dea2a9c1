use Rattle.ic_disk.specs.Model.{IsImageIn}
use Rattle.ic_disk.proofs.ModelLemmas.{may_read, midst_by, unchanged}
use Rattle.ic_disk.proofs.laws.read_as_modelled.Goals as goal

pub returns-clause-may : goal.returns-clause-may
returns-clause-may g c s keeps is =
    let disk = g.D.Disk in
    may_read disk.content disk.image c.args.at c.read.result c.args.into.now c.read.new.into c.args.disk.now s is (c.read.ensures.bytes keeps)

pub returns-clause-same : goal.returns-clause-same
returns-clause-same g c s keeps is =
    let disk = g.D.Disk in
    let call = c.read.ensures.unchanged keeps in
    unchanged disk.content disk.image c.args.disk.now c.read.new.self s is call.same call.images call.stay

pub returns-clause-midst : goal.returns-clause-midst
returns-clause-midst g c s keeps is =
    let disk = g.D.Disk in
    midst_by disk.content disk.image disk.clock disk.left c.args.disk.now c.read.new.self _ (IsImageIn s) g.met.D.Disk.left_is_image (c.read.ensures.unchanged keeps).time is.no_others is.no_others
