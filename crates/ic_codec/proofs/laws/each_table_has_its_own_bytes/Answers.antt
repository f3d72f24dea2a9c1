use Rattle.ic_codec.proofs.JobLemmas.{same_table, no_front, one_table}
use Rattle.ic_codec.proofs.laws.each_table_has_its_own_bytes.Goals as goal

pub returns-clause-same : goal.returns-clause-same
returns-clause-same c = same_table

pub returns-clause-front : goal.returns-clause-front
returns-clause-front c = no_front

pub returns-clause-either : goal.returns-clause-either
returns-clause-either c = one_table
