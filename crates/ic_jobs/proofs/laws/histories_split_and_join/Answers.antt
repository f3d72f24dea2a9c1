use Rattle.ic_jobs.proofs.HistoryLemmas.{replay-append, IsLegal-split, IsLegal-join}
use Rattle.ic_jobs.proofs.laws.histories_split_and_join.Goals as goal

pub returns-clause-table : goal.returns-clause-table
returns-clause-table c = replay-append

pub returns-clause-legal : goal.returns-clause-legal
returns-clause-legal c = λ t h k. (IsLegal-split t h k, λ parts. IsLegal-join t h k parts.0 parts.1)
