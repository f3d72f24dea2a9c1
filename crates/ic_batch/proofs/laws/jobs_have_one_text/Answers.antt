use Rattle.ic_batch.proofs.LawLemmas.{one_end, one_text}
use Rattle.ic_batch.proofs.laws.jobs_have_one_text.Goals as goal

pub returns-clause-end : goal.returns-clause-end
returns-clause-end c = one_end

pub returns-clause-text : goal.returns-clause-text
returns-clause-text c = one_text
