use Rattle.ic_state.proofs.StateLemmas.{one_state}
use Rattle.ic_state.proofs.laws.each_state_has_its_own_bytes.Goals as goal

pub returns : goal.returns
returns c = one_state
