use Rattle.ic_confluence.proofs.Joins.{chains_join}
use Rattle.ic_confluence.proofs.laws.any_two_chains_join.Goals as goal

pub returns : goal.returns
returns c = chains_join
