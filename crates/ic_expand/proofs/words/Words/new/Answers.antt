use Rattle.ic_expand.proofs.Placed.{none_placed}
use Rattle.ic_expand.proofs.words.Words.new.Goals as goal

pub invariant_of-result : goal.invariant_of-result
invariant_of-result c = none_placed c.new-places.result c.new-words.result.items c.new-words.ensures.items c.new-places.ensures.empty
