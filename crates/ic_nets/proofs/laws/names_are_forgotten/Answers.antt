use Rattle.ic_nets.proofs.RenamingLemmas.{net_forgets}
use Rattle.ic_nets.proofs.laws.names_are_forgotten.Goals as goal

pub returns : goal.returns
returns c rs k d net sound = net_forgets rs k d net sound.twice
