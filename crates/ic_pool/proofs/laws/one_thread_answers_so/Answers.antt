use Rattle.ic_pool.proofs.AnswerLemmas.{alone_exact}
use Rattle.ic_pool.proofs.laws.one_thread_answers_so.Goals as goal

pub returns : goal.returns
returns c = alone_exact
