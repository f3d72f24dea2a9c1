use Rattle.ic_readback.proofs.Quiets.{stuck_quiet}
use Rattle.ic_readback.proofs.laws.what_is_read_of_stuck_pairs_is_quiet.Goals as goal

pub returns : goal.returns
returns c = stuck_quiet
