use Rattle.std.proofs.Common.{refl, arith}
use Rattle.ic_kept.proofs.WorkedLemmas.{number_by_hand, size_by_hand}
use Rattle.ic_kept.proofs.laws.a_file_by_hand.Goals as goal

pub returns-clause-newest : goal.returns-clause-newest
returns-clause-newest c = record {
  opened = refl;
  after = record { number_is = number_by_hand; size_is = size_by_hand; within = omega arith; state_is = refl };
}

pub returns-clause-lengths : goal.returns-clause-lengths
returns-clause-lengths c = (refl, refl)
