use Rattle.ic_jobs.proofs.EventLemmas.{others_stay}
use Rattle.ic_jobs.proofs.laws.other_jobs_stay.Goals as goal

pub returns : goal.returns
returns c = others_stay
