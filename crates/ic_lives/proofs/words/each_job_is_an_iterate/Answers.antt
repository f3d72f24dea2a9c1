use Rattle.ic_lives.proofs.WordLemmas.{iterate_of}
use Rattle.ic_lives.proofs.words.each_job_is_an_iterate.Goals as goal

pub returns : goal.returns
returns c = iterate_of
