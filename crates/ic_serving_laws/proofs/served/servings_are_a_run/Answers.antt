use Rattle.ic_serving_laws.proofs.ServingLemmas.{parts_run, parts_open, parts_stopped}
use Rattle.ic_serving_laws.proofs.served.servings_are_a_run.Goals as goal

pub returns-clause-run : goal.returns-clause-run
returns-clause-run g c parts = parts_run c.histories_split_and_join.ensures.table c.histories_split_and_join.ensures.legal c.one_is_held.ensures
    g.met.D.Disk.content_is_image g.met.D.Disk.image_is_left g.met.D.Disk.left_is_image
    parts c.args.first.now

pub returns-clause-open : goal.returns-clause-open
returns-clause-open g c parts = parts_open c.histories_split_and_join.ensures.table c.histories_split_and_join.ensures.legal c.one_is_held.ensures
    g.met.D.Disk.content_is_image g.met.D.Disk.image_is_left g.met.D.Disk.left_is_image c.life_law.ensures
    parts c.args.first.now c.args.book.now

pub returns-clause-stopped : goal.returns-clause-stopped
returns-clause-stopped g c parts = parts_stopped c.histories_split_and_join.ensures.table c.histories_split_and_join.ensures.legal c.one_is_held.ensures
    g.met.D.Disk.content_is_image g.met.D.Disk.image_is_left g.met.D.Disk.left_is_image
    parts c.args.first.now c.args.last.now
