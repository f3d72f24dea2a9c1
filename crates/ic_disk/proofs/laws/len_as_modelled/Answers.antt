use Rattle.ic_disk.specs.Model.{IsImageIn}
use Rattle.ic_disk.proofs.ModelLemmas.{may_tell, midst_by, unchanged}
use Rattle.ic_disk.proofs.laws.len_as_modelled.Goals as goal

pub returns-clause-may : goal.returns-clause-may
returns-clause-may g c s keeps is =
    let disk = g.D.Disk in
    may_tell disk.content disk.image c.len.result c.args.disk.now s is (c.len.ensures.length keeps)

pub returns-clause-same : goal.returns-clause-same
returns-clause-same g c s keeps is =
    let disk = g.D.Disk in
    let call = c.len.ensures.unchanged keeps in
    unchanged disk.content disk.image c.args.disk.now c.len.new.self s is call.same call.images call.stay

pub returns-clause-midst : goal.returns-clause-midst
returns-clause-midst g c s keeps is =
    let disk = g.D.Disk in
    midst_by disk.content disk.image disk.clock disk.left c.args.disk.now c.len.new.self _ (IsImageIn s) g.met.D.Disk.left_is_image (c.len.ensures.unchanged keeps).time is.no_others is.no_others
