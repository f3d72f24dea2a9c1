-- The promise follows from the clauses of the call alone, so no more is tried where a wrong body stands.
use Rattle.std.proofs.Common.{rules}
use Rattle.ic_promises.proofs.promises.round.Goals as goal

pub returns-clause-round : goal.returns-clause-round
returns-clause-round c = search rules

pub returns-clause-counted : goal.returns-clause-counted
returns-clause-counted c = search rules
