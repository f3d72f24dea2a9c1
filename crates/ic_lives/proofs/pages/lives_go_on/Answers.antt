use Rattle.ic_lives.proofs.PageLemmas.{apart, together}
use Rattle.ic_lives.proofs.pages.lives_go_on.Goals as goal

pub returns-clause-none : goal.returns-clause-none
returns-clause-none c = λ t. tt

pub returns-clause-next : goal.returns-clause-next
returns-clause-next c = λ t before last. (
  apart c.histories_split_and_join.ensures.table t before last,
  λ parts. together c.histories_split_and_join.ensures.table t before last parts.0 parts.1 parts.2,
)
