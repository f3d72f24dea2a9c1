use Rattle.ic_attend.proofs.PartLemmas.{not_another}
use Rattle.ic_attend.proofs.laws.two_clients_never_mix.Goals as goal

pub returns : goal.returns
returns c = not_another
