use Rattle.ic_lives.proofs.PageLemmas.{apart, legal_lives}
use Rattle.ic_lives.proofs.pages.lives_law.Goals as goal

pub returns-clause-legal : goal.returns-clause-legal
returns-clause-legal c = λ before last lives.
    let parts = apart c.histories_split_and_join.ensures.table _ before last lives in
    legal_lives c.histories_split_and_join.ensures.legal _ before parts.0

pub returns-clause-opens : goal.returns-clause-opens
returns-clause-opens c = λ before last lives.
    let parts = apart c.histories_split_and_join.ensures.table _ before last lives in parts.2
