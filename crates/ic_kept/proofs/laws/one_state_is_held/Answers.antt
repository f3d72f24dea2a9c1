use Rattle.ic_kept.proofs.HeldLemmas.{one_held}
use Rattle.ic_kept.proofs.laws.one_state_is_held.Goals as goal

pub returns : goal.returns
returns c = one_held
