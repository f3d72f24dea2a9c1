-- The promise follows from the clauses of the call alone, so no more is tried where a wrong body stands.
use Rattle.std.proofs.Common.{rules}
use Rattle.ic_promises.proofs.promises.build.Goals as goal

pub returns : goal.returns
returns c = search rules
