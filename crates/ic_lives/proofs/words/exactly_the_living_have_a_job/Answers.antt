use Rattle.ic_lives.proofs.WordLemmas.{living}
use Rattle.ic_lives.proofs.words.exactly_the_living_have_a_job.Goals as goal

pub returns : goal.returns
returns c = living
