-- The promise follows from the clauses of the call alone, so no more is tried where a wrong body stands.
use Rattle.std.proofs.Common.{rules}
use Rattle.ic_promises.proofs.promises.round_by_workers.Goals as goal

pub returns-clause-round : goal.returns-clause-round
returns-clause-round g c = search rules
