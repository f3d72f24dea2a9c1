use Rattle.ic_lives.proofs.ToldLemmas.{answer_told}
use Rattle.ic_lives.proofs.words.each_answer_is_told.Goals as goal

pub returns : goal.returns
returns c = answer_told
