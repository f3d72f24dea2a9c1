use Rattle.std.proofs.Common.{refl}
use Rattle.ic_frames.proofs.LayoutLemmas.{written_slot, slot_written}
use Rattle.ic_frames.proofs.laws.a_slot_is_its_bytes.Goals as goal

pub returns-clause-written : goal.returns-clause-written
returns-clause-written c = written_slot

pub returns-clause-only : goal.returns-clause-only
returns-clause-only c = slot_written

pub returns-clause-example : goal.returns-clause-example
returns-clause-example c = refl
