use Rattle.ic_keeping.proofs.WayLemmas.{itself_reached}
use Rattle.ic_keeping.proofs.systems.states_are_reached.Goals as goal

pub returns : goal.returns
returns c = itself_reached c.what_is_reached_is_one_net.ensures.itself c.what_is_reached_is_one_net.ensures.names
