use Rattle.ic_exact.proofs.ThirdLemmas.{one_third}
use Rattle.ic_exact.proofs.firsts.the_first_third_is_one.Goals as goal

pub returns : goal.returns
returns c = one_third
