use Rattle.std.proofs.Common.{refl}
use Rattle.ic_expand.proofs.laws.arguments_are_counted_by_hand.Goals as goal

pub returns : goal.returns
returns c = refl
