use Rattle.std.proofs.Common.{refl}
use Rattle.ic_codec.proofs.WorkedLemmas.{submitted_bytes, done_bytes, spent_bytes}
use Rattle.ic_codec.proofs.laws.a_table_by_hand.Goals as goal

pub returns-clause-submitted : goal.returns-clause-submitted
returns-clause-submitted c = submitted_bytes

pub returns-clause-done : goal.returns-clause-done
returns-clause-done c = done_bytes

pub returns-clause-spent : goal.returns-clause-spent
returns-clause-spent c = spent_bytes

pub returns-clause-lengths : goal.returns-clause-lengths
returns-clause-lengths c = (refl, refl, refl)
