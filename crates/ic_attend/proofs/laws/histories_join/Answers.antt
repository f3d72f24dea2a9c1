use Rattle.std.proofs.Common.{◌∙◌, List, ap, sym, subst}
use Rattle.ic_book.specs.Book.{start_of, log_of}
use Rattle.ic_jobs.specs.History.{replay, IsLegal}
use Rattle.ic_jobs.specs.Job.{JobParts}
use Rattle.ic_attend.proofs.laws.histories_join.Goals as goal

pub returns-clause-table : goal.returns-clause-table
returns-clause-table g c = λ scripts runners turns history. history.replayed

pub returns-clause-joined : goal.returns-clause-joined
returns-clause-joined g c = λ scripts others r s t u one two on.
    let start = start_of c.args.first.now.book in
    let h = log_of c.args.first.now.book in
    let k = log_of c.args.second.now.book in
    let from = one.replayed ∙ sym on in (
      (c.histories_split_and_join.ensures.legal start h k).1 (one.legal, subst (λ (l : List JobParts). IsLegal l k) (sym from) two.legal),
      c.histories_split_and_join.ensures.table start h k ∙ ap (λ (l : List JobParts). replay l k) from ∙ two.replayed,
    )
