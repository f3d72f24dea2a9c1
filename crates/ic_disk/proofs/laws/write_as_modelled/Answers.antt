use Rattle.ic_disk.specs.Model.{Write, after, write, IsImageIn, begun}
use Rattle.ic_disk.proofs.ModelLemmas.{agrees_exactly, before_pending, begins, failed, may_write, midst_by, reached_by, torn_by, torn_pending, written}
use Rattle.ic_disk.proofs.laws.write_as_modelled.Goals as goal

pub returns-clause-may : goal.returns-clause-may
returns-clause-may g c s keeps is =
    let disk = g.D.Disk in
    let call = c.write_at.ensures.writes keeps in
    let w : Write = record { at = c.args.at; bytes = c.args.bytes.now } in
    let old = c.args.disk.now in
    let new = c.write_at.new.self in
    may_write disk.content disk.image w s old is new c.write_at.result
    (written disk.content disk.image w s old is new c.write_at.result call.written call.images call.all_torn)
    (failed disk.content disk.image w s old is new c.write_at.result call.images call.stay call.failed)
    (torn_by disk.content disk.image w s old is new c.write_at.result call.torn)

pub returns-clause-reached : goal.returns-clause-reached
returns-clause-reached g c keeps =
    let disk = g.D.Disk in
    reached_by disk.image disk.clock disk.left c.args.disk.now c.write_at.new.self _ g.met.D.Disk.image_is_left (c.write_at.ensures.writes keeps).time

pub returns-clause-midst : goal.returns-clause-midst
returns-clause-midst g c s keeps is =
    let disk = g.D.Disk in
    let w : Write = record { at = c.args.at; bytes = c.args.bytes.now } in
    midst_by disk.content disk.image disk.clock disk.left c.args.disk.now c.write_at.new.self _ (IsImageIn (after (write w) s)) g.met.D.Disk.left_is_image (c.write_at.ensures.writes keeps).time
    (before_pending disk.content disk.image w s c.args.disk.now is)
    (torn_pending disk.content disk.image w s c.args.disk.now is)

pub returns-clause-settled : goal.returns-clause-settled
returns-clause-settled g c keeps only =
    let disk = g.D.Disk in
    let old = c.args.disk.now in
    let new = c.write_at.new.self in
    let call = c.write_at.ensures.writes keeps in
    let w : Write = record { at = c.args.at; bytes = c.args.bytes.now } in
    let is = begins disk.content disk.image old (g.met.D.Disk.content_is_image old) only in
    agrees_exactly disk.content disk.image c.args.at c.args.bytes.now old new c.write_at.result
    (written disk.content disk.image w (begun (disk.content old)) old is new c.write_at.result call.written call.images call.all_torn)
