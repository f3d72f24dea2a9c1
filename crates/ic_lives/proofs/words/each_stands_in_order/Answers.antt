use Rattle.ic_lives.proofs.WordLemmas.{among_at}
use Rattle.ic_lives.proofs.words.each_stands_in_order.Goals as goal

pub returns : goal.returns
returns c front back others entry is = among_at front back others entry is
