use Rattle.ic_serving_laws.proofs.WordLemmas.{cut_front}
use Rattle.ic_serving_laws.proofs.words.cut_short_is_a_front.Goals as goal

pub returns : goal.returns
returns c moves cut is = cut_front moves cut is
