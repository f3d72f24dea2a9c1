use Rattle.ic_nets.proofs.OnceLemmas.{listed_once}
use Rattle.ic_nets.proofs.laws.ports_are_listed_once.Goals as goal

pub returns : goal.returns
returns c = listed_once
