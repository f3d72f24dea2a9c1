use Rattle.std.proofs.Common.{refl}
use Rattle.ic_codec.proofs.WorkedLemmas.{old_submitted_bytes, old_done_bytes}
use Rattle.ic_codec.proofs.laws.an_old_table_by_hand.Goals as goal

pub returns-clause-submitted : goal.returns-clause-submitted
returns-clause-submitted c = old_submitted_bytes

pub returns-clause-done : goal.returns-clause-done
returns-clause-done c = old_done_bytes

pub returns-clause-lengths : goal.returns-clause-lengths
returns-clause-lengths c = (refl, refl)
