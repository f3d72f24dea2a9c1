use Rattle.std.proofs.Common.{refl, ap}
use Rattle.std.specs.Option.{option_map_or}
use Rattle.ic_jobs.proofs.HistoryLemmas.{legal_is_answered, answered_is_legal}
use Rattle.ic_jobs.proofs.laws.one_entry_is_legal_where_it_is_answered.Goals as goal

pub returns-clause-empty : goal.returns-clause-empty
returns-clause-empty c = λ t. tt

pub returns-clause-empty_stays : goal.returns-clause-empty_stays
returns-clause-empty_stays c = λ t. refl

pub returns-clause-legal : goal.returns-clause-legal
returns-clause-legal c = λ t e. (legal_is_answered t e, answered_is_legal t e)

pub returns-clause-table : goal.returns-clause-table
returns-clause-table c = λ t e o is. ap (λ p. option_map_or (λ q. q.table) p t) is

pub returns-clause-undefined : goal.returns-clause-undefined
returns-clause-undefined c = λ t e is. ap (λ p. option_map_or (λ q. q.table) p t) is
