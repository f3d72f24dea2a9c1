use Rattle.ic_serving_laws.proofs.ServedLemmas.{opened_so, refused_then}
use Rattle.ic_serving_laws.proofs.served.a_stopped_serving_opens_again.Goals as goal

pub returns-clause-opened : goal.returns-clause-opened
returns-clause-opened g c moves done run here call = opened_so c.histories_split_and_join.ensures.table c.histories_split_and_join.ensures.legal c.one_is_held.ensures
    g.met.D.Disk.content_is_image g.met.D.Disk.image_is_left g.met.D.Disk.left_is_image c.life_law.ensures
    moves c.args.old.now c.args.new.now done c.args.found.now c.args.next.now run here call

pub returns-clause-refused : goal.returns-clause-refused
returns-clause-refused g c moves done after cause = refused_then c.histories_split_and_join.ensures.table c.histories_split_and_join.ensures.legal c.one_is_held.ensures
    g.met.D.Disk.content_is_image g.met.D.Disk.image_is_left g.met.D.Disk.left_is_image
    moves c.args.old.now c.args.new.now done c.args.found.now after cause
