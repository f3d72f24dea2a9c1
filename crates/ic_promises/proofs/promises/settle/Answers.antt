-- The promise follows from the clauses of the call alone, so no more is tried where a wrong body stands.
use Rattle.std.proofs.Common.{rules}
use Rattle.ic_promises.proofs.promises.settle.Goals as goal

pub returns-clause-settled : goal.returns-clause-settled
returns-clause-settled c = search rules

pub returns-clause-reached : goal.returns-clause-reached
returns-clause-reached c = search rules

pub returns-clause-ended : goal.returns-clause-ended
returns-clause-ended c = search rules

pub returns-clause-over : goal.returns-clause-over
returns-clause-over c = search rules
