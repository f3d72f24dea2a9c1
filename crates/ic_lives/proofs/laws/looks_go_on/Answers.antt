use Rattle.ic_lives.specs.lemmas.RunLemmas.{two_looks, all_told}
use Rattle.ic_lives.proofs.laws.looks_go_on.Goals as goal

pub returns-clause-two : goal.returns-clause-two
returns-clause-two g c = two_looks c.histories_split_and_join.ensures.table c.histories_split_and_join.ensures.legal c.one_is_held.ensures
    g.met.D.Disk.content_is_image g.met.D.Disk.image_is_left g.met.D.Disk.left_is_image c.life_law.ensures

pub returns-clause-all : goal.returns-clause-all
returns-clause-all g c = all_told c.histories_split_and_join.ensures.table c.histories_split_and_join.ensures.legal c.one_is_held.ensures
    g.met.D.Disk.content_is_image g.met.D.Disk.image_is_left g.met.D.Disk.left_is_image c.life_law.ensures
