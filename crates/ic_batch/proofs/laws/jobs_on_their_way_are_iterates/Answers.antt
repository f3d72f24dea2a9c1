use Rattle.ic_batch.proofs.LawLemmas.{way_few, way_is}
use Rattle.ic_batch.proofs.laws.jobs_on_their_way_are_iterates.Goals as goal

pub returns-clause-iterate : goal.returns-clause-iterate
returns-clause-iterate c = λ most new job way.
    let is = way_is new most job way in
    (is.name, is.rules, is.budget, is.config)

pub returns-clause-few : goal.returns-clause-few
returns-clause-few c = λ most new job way. way_few most new job way
