use Rattle.ic_lives.proofs.CallLemmas.{counted}
use Rattle.ic_lives.proofs.calls.a_call_counts_as_one_at_most.Goals as goal

pub returns-clause-reads : goal.returns-clause-reads
returns-clause-reads g c is = counted is.time.later is.time.one_call

pub returns-clause-writes : goal.returns-clause-writes
returns-clause-writes g c at bytes result is = counted is.time.later is.time.one_call

pub returns-clause-syncs : goal.returns-clause-syncs
returns-clause-syncs g c result is = counted is.time.later is.time.one_call
