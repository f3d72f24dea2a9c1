use Rattle.ic_by_rounds.proofs.Interactions.{active_counted, as_many_rows, rounds_interact}
use Rattle.ic_by_rounds.proofs.laws.rows_count_interactions.Goals as goal

pub returns-clause-rows : goal.returns-clause-rows
returns-clause-rows c = as_many_rows

pub returns-clause-chain : goal.returns-clause-chain
returns-clause-chain c = rounds_interact

pub returns-clause-places : goal.returns-clause-places
returns-clause-places c = active_counted
