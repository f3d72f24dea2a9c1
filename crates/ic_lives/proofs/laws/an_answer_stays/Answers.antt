use Rattle.ic_lives.proofs.PastLemmas.{all_stays, answer_stays}
use Rattle.ic_lives.proofs.laws.an_answer_stays.Goals as goal

pub returns-clause-told : goal.returns-clause-told
returns-clause-told c later who command reply before then now next = all_stays later then now next.1

pub returns-clause-some : goal.returns-clause-some
returns-clause-some c = answer_stays
