use Rattle.ic_term.proofs.ConfigLemmas.{restored_exactly}
use Rattle.ic_term.proofs.laws.restore_takes_configurations.Goals as goal

pub returns : goal.returns
returns c = restored_exactly
