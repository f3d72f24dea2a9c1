use Rattle.std.proofs.Common.{◌++◌, List, take, sym, subst}
use Rattle.ic_jobs.specs.Job.{JobParts}
use Rattle.ic_jobs.specs.Table.{job_named}
use Rattle.ic_jobs.specs.Life.{IsAsLived, life}
use Rattle.ic_book.specs.Lives.{lived}
use Rattle.ic_lives.proofs.PageLemmas.{legal_so_far, table_so_far}
use Rattle.ic_lives.proofs.pages.each_job_is_as_it_lived.Goals as goal

pub returns-clause-legal : goal.returns-clause-legal
returns-clause-legal c =
    legal_so_far c.histories_split_and_join.ensures.table c.histories_split_and_join.ensures.legal

pub returns-clause-table : goal.returns-clause-table
returns-clause-table c = table_so_far c.histories_split_and_join.ensures.table

pub returns-clause-jobs : goal.returns-clause-jobs
returns-clause-jobs c = λ before last n name lives.
    let legal = legal_so_far c.histories_split_and_join.ensures.table c.histories_split_and_join.ensures.legal before last n lives in
    let table = table_so_far c.histories_split_and_join.ensures.table before last n lives in
    subst (λ (t : List JobParts). IsAsLived (job_named name t) (life name (lived before ++ take n last.log)))
    (sym table) (c.life_law.ensures name (lived before ++ take n last.log) legal)
