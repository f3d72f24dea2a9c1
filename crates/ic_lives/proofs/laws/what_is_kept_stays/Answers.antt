use Rattle.ic_lives.proofs.PastLemmas.{all_stays}
use Rattle.ic_lives.proofs.laws.what_is_kept_stays.Goals as goal

pub returns-clause-kept : goal.returns-clause-kept
returns-clause-kept c later before then now next more = (next.0, all_stays later then now next.1 more)

pub returns-clause-found : goal.returns-clause-found
returns-clause-found c later before then now next = all_stays later then now next.lasting
