use Rattle.ic_slots.proofs.BegunLemmas.{head-begun, slot-begun}
use Rattle.ic_slots.proofs.laws.each_write_of_create_is_begun.Goals as goal

pub returns-clause-head : goal.returns-clause-head
returns-clause-head c = head-begun

pub returns-clause-slot : goal.returns-clause-slot
returns-clause-slot c = slot-begun
