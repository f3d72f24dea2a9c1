use Rattle.std.proofs.Common.{arith}
use Rattle.ic_inspect.proofs.SlotLemmas.{full_room, long_room, no_room}
use Rattle.ic_inspect.proofs.looking.body_room.Goals as goal

pub returns-then-slot-lt-HEAD-clause-is : goal.returns-then-slot-lt-HEAD-clause-is
returns-then-slot-lt-HEAD-clause-is c = omega (arith, no_room c.args.slot.now (omega arith))

pub returns-then-size-gt-MAX_BODY-clause-is : goal.returns-then-size-gt-MAX_BODY-clause-is
returns-then-size-gt-MAX_BODY-clause-is c = omega (arith, long_room c.args.slot.now (omega arith))

pub returns-else-size-gt-MAX_BODY-clause-is : goal.returns-else-size-gt-MAX_BODY-clause-is
returns-else-size-gt-MAX_BODY-clause-is c = omega (arith, full_room c.args.slot.now (omega arith) (omega arith))
