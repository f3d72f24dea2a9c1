use Rattle.ic_attend.proofs.HistoryLemmas.{failed_alone, failed_last}
use Rattle.ic_attend.proofs.laws.one_client_is_told_of_a_failure.Goals as goal

pub returns-clause-alone : goal.returns-clause-alone
returns-clause-alone g c = failed_alone c.args.attended.now

pub returns-clause-last : goal.returns-clause-last
returns-clause-last g c = failed_last c.args.attended.now
