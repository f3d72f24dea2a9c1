use Rattle.ic_plans.proofs.PendingLemmas.{pending_first, first_within}
use Rattle.ic_plans.proofs.laws.the_first_pairs_are_pending_first.Goals as goal

pub returns-clause-pending : goal.returns-clause-pending
returns-clause-pending c = pending_first

pub returns-clause-within : goal.returns-clause-within
returns-clause-within c = first_within
