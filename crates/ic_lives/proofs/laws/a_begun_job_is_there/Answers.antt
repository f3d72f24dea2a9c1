use Rattle.ic_lives.proofs.BeginningLemmas.{submitted_there, copied_there}
use Rattle.ic_lives.proofs.laws.a_begun_job_is_there.Goals as goal

pub returns : goal.returns
returns c = record { submitted = submitted_there; copied = copied_there }
