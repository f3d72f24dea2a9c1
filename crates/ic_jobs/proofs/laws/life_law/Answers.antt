use Rattle.ic_jobs.proofs.LifeLemmas.{lived}
use Rattle.ic_jobs.proofs.laws.life_law.Goals as goal

pub returns : goal.returns
returns c = lived
