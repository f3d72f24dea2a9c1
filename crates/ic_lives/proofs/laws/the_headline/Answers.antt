use Rattle.ic_lives.specs.lemmas.RunLemmas.{table_after, prefix_after, refused_so}
use Rattle.ic_lives.proofs.laws.the_headline.Goals as goal

pub returns-clause-open : goal.returns-clause-open
returns-clause-open g c moves = table_after c.histories_split_and_join.ensures.table c.histories_split_and_join.ensures.legal c.one_is_held.ensures
    g.met.D.Disk.content_is_image g.met.D.Disk.image_is_left g.met.D.Disk.left_is_image c.life_law.ensures moves c.args.book.now

pub returns-clause-stopped : goal.returns-clause-stopped
returns-clause-stopped g c moves file = prefix_after c.histories_split_and_join.ensures.table c.histories_split_and_join.ensures.legal c.one_is_held.ensures
    g.met.D.Disk.content_is_image g.met.D.Disk.image_is_left g.met.D.Disk.left_is_image moves c.args.found.now file

pub returns-clause-opens_again : goal.returns-clause-opens_again
returns-clause-opens_again g c moves cause = refused_so c.histories_split_and_join.ensures.table c.histories_split_and_join.ensures.legal c.one_is_held.ensures
    g.met.D.Disk.content_is_image g.met.D.Disk.image_is_left g.met.D.Disk.left_is_image moves cause c.args.found.now
