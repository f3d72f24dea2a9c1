use Rattle.ic_lives.proofs.PageLemmas.{begins_next}
use Rattle.ic_lives.proofs.pages.a_stop_begins_the_next_life.Goals as goal

pub returns : goal.returns
returns c = begins_next c.histories_split_and_join.ensures.table c.one_is_held.ensures
