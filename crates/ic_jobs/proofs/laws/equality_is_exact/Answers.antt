use Rattle.ic_jobs.specs.lemmas.JobLaws.{job_eq-Decides, table_eq-Decides}
use Rattle.ic_jobs.proofs.laws.equality_is_exact.Goals as goal

pub returns-clause-jobs : goal.returns-clause-jobs
returns-clause-jobs c = job_eq-Decides

pub returns-clause-tables : goal.returns-clause-tables
returns-clause-tables c = table_eq-Decides
