use Rattle.ic_frames.proofs.LawLemmas.{newest_by_heads}
use Rattle.ic_frames.proofs.laws.the_heads_say_which_is_newest.Goals as goal

pub returns : goal.returns
returns c = newest_by_heads
