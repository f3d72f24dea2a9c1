use Rattle.ic_batch.proofs.LawLemmas.{none_other, not_same}
use Rattle.ic_batch.proofs.laws.jobs_on_their_way_are_not_taken.Goals as goal

pub returns-clause-same : goal.returns-clause-same
returns-clause-same c = none_other

pub returns-clause-none : goal.returns-clause-none
returns-clause-none c = not_same
