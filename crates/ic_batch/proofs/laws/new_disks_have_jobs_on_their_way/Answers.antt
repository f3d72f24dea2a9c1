use Rattle.ic_batch.proofs.LawLemmas.{all_begin, none_there, way_further}
use Rattle.ic_batch.proofs.laws.new_disks_have_jobs_on_their_way.Goals as goal

pub returns-clause-none : goal.returns-clause-none
returns-clause-none c = none_there

pub returns-clause-begun : goal.returns-clause-begun
returns-clause-begun c = all_begin

pub returns-clause-more : goal.returns-clause-more
returns-clause-more c most more jobs t less ways = way_further most more less jobs t ways
