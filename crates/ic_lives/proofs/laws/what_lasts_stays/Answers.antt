use Rattle.ic_lives.proofs.PastLemmas.{lasting_stays}
use Rattle.ic_lives.proofs.laws.what_lasts_stays.Goals as goal

pub returns : goal.returns
returns c = lasting_stays
