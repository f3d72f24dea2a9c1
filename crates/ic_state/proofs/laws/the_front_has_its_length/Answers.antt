use Rattle.ic_state.proofs.StateLemmas.{front_is_long}
use Rattle.ic_state.proofs.laws.the_front_has_its_length.Goals as goal

pub returns-clause-front : goal.returns-clause-front
returns-clause-front c = front_is_long
