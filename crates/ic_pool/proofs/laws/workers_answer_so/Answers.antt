use Rattle.ic_pool.proofs.AnswerLemmas.{no_workers, some_workers}
use Rattle.ic_pool.proofs.laws.workers_answer_so.Goals as goal

pub returns : goal.returns
returns c = record { none = no_workers; some = some_workers }
