-- The promise follows from the clauses of the call alone, so no more is tried where a wrong body stands.
use Rattle.std.proofs.Common.{rules}
use Rattle.ic_promises.proofs.promises.read_system.Goals as goal

pub returns-clause-read : goal.returns-clause-read
returns-clause-read c = search rules
