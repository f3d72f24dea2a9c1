use Rattle.ic_disk.specs.Model.{IsImageIn}
use Rattle.ic_disk.proofs.ModelLemmas.{may_sync, midst_by, reached_by, synced, unsynced}
use Rattle.ic_disk.proofs.laws.sync_as_modelled.Goals as goal

pub returns-clause-may : goal.returns-clause-may
returns-clause-may g c s keeps is =
    let disk = g.D.Disk in
    let call = c.sync.ensures.syncs keeps in
    let old = c.args.disk.now in
    let new = c.sync.new.self in
    let now = g.met.D.Disk.content_is_image new in
    may_sync disk.content disk.image s old new is call.same now c.sync.result
    (synced disk.content disk.image s old new is call.same now c.sync.result call.durable)
    (unsynced disk.content disk.image s old new is call.same now c.sync.result call.images call.failed)

pub returns-clause-reached : goal.returns-clause-reached
returns-clause-reached g c keeps =
    let disk = g.D.Disk in
    reached_by disk.image disk.clock disk.left c.args.disk.now c.sync.new.self _ g.met.D.Disk.image_is_left (c.sync.ensures.syncs keeps).time

pub returns-clause-midst : goal.returns-clause-midst
returns-clause-midst g c s keeps is =
    let disk = g.D.Disk in
    midst_by disk.content disk.image disk.clock disk.left c.args.disk.now c.sync.new.self _ (IsImageIn s) g.met.D.Disk.left_is_image (c.sync.ensures.syncs keeps).time is.no_others is.no_others
