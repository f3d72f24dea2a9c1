use Rattle.ic_lives.specs.lemmas.RunLemmas.{table_after}
use Rattle.ic_serving_laws.proofs.ServedLemmas.{reaches_more, stopped_so, failed_by, once_by}
use Rattle.ic_book.specs.Book.{table_of}
use Rattle.ic_serving_laws.proofs.PartLemmas.{left_within}
use Rattle.ic_serving_laws.proofs.served.the_served_headline.Goals as goal

pub returns-clause-ended : goal.returns-clause-ended
returns-clause-ended g c moves done run =
    let there = reaches_more moves c.args.old.now c.args.new.now done run in (
      there,
      table_after c.histories_split_and_join.ensures.table c.histories_split_and_join.ensures.legal c.one_is_held.ensures
          g.met.D.Disk.content_is_image g.met.D.Disk.image_is_left g.met.D.Disk.left_is_image c.life_law.ensures _ c.args.new.now there,
    )

pub returns-clause-stopped : goal.returns-clause-stopped
returns-clause-stopped g c moves done = stopped_so c.histories_split_and_join.ensures.table c.histories_split_and_join.ensures.legal c.one_is_held.ensures
    g.met.D.Disk.content_is_image g.met.D.Disk.image_is_left g.met.D.Disk.left_is_image moves c.args.old.now c.args.new.now done c.args.found.now

pub returns-clause-broken : goal.returns-clause-broken
returns-clause-broken g c done later earlier who command reply same =
    let is = failed_by who command reply done.moves later earlier c.args.old.now c.args.new.now done.calls same in
    (is.broken, is.front, is.after, is.log, is.unkept)

pub returns-clause-once : goal.returns-clause-once
returns-clause-once g c done later between earlier who other command second reply answer =
    once_by done.moves later between earlier who other command second reply answer c.args.old.now c.args.new.now done.calls

pub returns-clause-group : goal.returns-clause-group
returns-clause-group g c limit most fault ls before after serving one other =
    let ended = serving.ended other in (
      ended.answered.answers,
      ended.between,
      ended.answered.served,
      left_within c.one_line_reading.ensures.total fault most ended.between (table_of c.args.new.now) serving.rest one ended.in_group,
    )
