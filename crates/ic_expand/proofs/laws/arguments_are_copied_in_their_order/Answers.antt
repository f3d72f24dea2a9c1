use Rattle.std.proofs.Common.{refl}
use Rattle.ic_expand.proofs.laws.arguments_are_copied_in_their_order.Goals as goal

pub returns-clause-copied : goal.returns-clause-copied
returns-clause-copied c = refl

pub returns-clause-given : goal.returns-clause-given
returns-clause-given c = refl
