use Rattle.std.proofs.Common.{refl, arith}
use Rattle.ic_state.proofs.WorkedLemmas.{begun_bytes, by_rounds_bytes, ended_bytes, midway_bytes, narrow_bytes}
use Rattle.ic_state.proofs.laws.a_state_by_hand.Goals as goal

pub returns-clause-begun : goal.returns-clause-begun
returns-clause-begun c = begun_bytes

pub returns-clause-ended : goal.returns-clause-ended
returns-clause-ended c = ended_bytes

pub returns-clause-midway : goal.returns-clause-midway
returns-clause-midway c = midway_bytes

pub returns-clause-by_rounds : goal.returns-clause-by_rounds
returns-clause-by_rounds c = by_rounds_bytes

pub returns-clause-narrow : goal.returns-clause-narrow
returns-clause-narrow c = narrow_bytes

pub returns-clause-kept : goal.returns-clause-kept
returns-clause-kept c = (
  record { terms = omega arith; interactions = omega arith; rules = omega arith; count = omega arith; millis = omega arith; by_rule = (omega arith, tt); words = (omega arith, ((omega arith, omega arith), (omega arith, ((omega arith, omega arith), ((omega arith, omega arith), tt))))); rounds = tt },
  record { terms = omega arith; interactions = omega arith; rules = omega arith; count = omega arith; millis = omega arith; by_rule = (omega arith, tt); words = ((omega arith, omega arith), tt); rounds = tt },
  record { terms = omega arith; interactions = omega arith; rules = omega arith; count = omega arith; millis = omega arith; by_rule = (omega arith, (omega arith, (omega arith, tt))); words = (omega arith, ((omega arith, omega arith), (omega arith, ((omega arith, omega arith), tt)))); rounds = tt },
  record { terms = omega arith; interactions = omega arith; rules = omega arith; count = omega arith; millis = omega arith; by_rule = (omega arith, tt); words = ((omega arith, omega arith), tt); rounds = omega arith },
  record { terms = omega arith; interactions = omega arith; rules = omega arith; count = omega arith; millis = omega arith; by_rule = (omega arith, tt); words = (omega arith, ((omega arith, omega arith), (omega arith, ((omega arith, omega arith), ((omega arith, omega arith), tt))))); rounds = tt },
)

pub returns-clause-head : goal.returns-clause-head
returns-clause-head c head is = (is.interactions, is.ended, is.rules, is.words, is.millis, is.narrow)

pub returns-clause-midway_head : goal.returns-clause-midway_head
returns-clause-midway_head c head is = (is.interactions, is.rules, is.words, is.millis)

pub returns-clause-rounds_head : goal.returns-clause-rounds_head
returns-clause-rounds_head c head is = is.rounds

pub returns-clause-narrow_head : goal.returns-clause-narrow_head
returns-clause-narrow_head c head is = is.narrow

pub returns-clause-lengths : goal.returns-clause-lengths
returns-clause-lengths c = (refl, refl, refl, refl, refl)
