use Rattle.ic_lives.specs.lemmas.RunLemmas.{table_after}
use Rattle.ic_serving_laws.proofs.ServedLemmas.{reaches_more, lines_stopped}
use Rattle.ic_serving_laws.proofs.served.lines_are_moves.Goals as goal

pub returns-clause-answered : goal.returns-clause-answered
returns-clause-answered g c moves limit most result ls before after serving run = (
  serving.served,
  table_after c.histories_split_and_join.ensures.table c.histories_split_and_join.ensures.legal c.one_is_held.ensures
      g.met.D.Disk.content_is_image g.met.D.Disk.image_is_left g.met.D.Disk.left_is_image c.life_law.ensures _ c.args.new.now
      (reaches_more moves c.args.old.now c.args.new.now serving.crash.done run),
)

pub returns-clause-stopped : goal.returns-clause-stopped
returns-clause-stopped g c moves limit most result ls before after serving run here = lines_stopped c.histories_split_and_join.ensures.table c.histories_split_and_join.ensures.legal c.one_is_held.ensures
    g.met.D.Disk.content_is_image g.met.D.Disk.image_is_left g.met.D.Disk.left_is_image
    limit most result moves c.args.old.now c.args.new.now ls before after serving c.args.found.now run here
