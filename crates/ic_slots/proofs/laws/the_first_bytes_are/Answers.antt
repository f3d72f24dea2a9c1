use Rattle.std.proofs.Common.{refl}
use Rattle.ic_slots.proofs.laws.the_first_bytes_are.Goals as goal

pub returns-clause-ict2 : goal.returns-clause-ict2
returns-clause-ict2 c = refl

pub returns-clause-ict1 : goal.returns-clause-ict1
returns-clause-ict1 c = refl
