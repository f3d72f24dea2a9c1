use Rattle.ic_lives.proofs.BeginningLemmas.{submitted_last}
use Rattle.ic_lives.proofs.laws.submits_begin_so.Goals as goal

pub returns : goal.returns
returns c = submitted_last
