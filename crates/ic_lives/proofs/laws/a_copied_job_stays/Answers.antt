use Rattle.ic_lives.proofs.BeginningLemmas.{copied_stays}
use Rattle.ic_lives.proofs.laws.a_copied_job_stays.Goals as goal

pub returns : goal.returns
returns c = copied_stays
