use Rattle.ic_book.specs.Book.{table_of}
use Rattle.ic_lives.specs.lemmas.AmongLemmas.{table_stands, file_stands}
use Rattle.ic_lives.specs.lemmas.RunLemmas.{table_after, prefix_after}
use Rattle.ic_lives.proofs.laws.every_answer_stands.Goals as goal

pub returns-clause-open : goal.returns-clause-open
returns-clause-open g c moves run = table_stands moves (table_of c.args.book.now) (table_after c.histories_split_and_join.ensures.table c.histories_split_and_join.ensures.legal c.one_is_held.ensures
    g.met.D.Disk.content_is_image g.met.D.Disk.image_is_left g.met.D.Disk.left_is_image c.life_law.ensures moves c.args.book.now run)

pub returns-clause-stopped : goal.returns-clause-stopped
returns-clause-stopped g c moves file run there = file_stands c.histories_split_and_join.ensures.legal moves file (prefix_after c.histories_split_and_join.ensures.table c.histories_split_and_join.ensures.legal c.one_is_held.ensures
    g.met.D.Disk.content_is_image g.met.D.Disk.image_is_left g.met.D.Disk.left_is_image moves c.args.found.now file run there)
