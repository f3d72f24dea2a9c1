use Rattle.ic_book.proofs.BookLemmas.{either_of, held_all}
use Rattle.ic_book.proofs.book.Book.close.Goals as goal

pub returns-clause-step : goal.returns-clause-step
returns-clause-step g c =
    let same = c.close.ensures in
    record {
      same = same;
      images = λ keeps made. rw same (either_of c.args.self (rw same at keeps) (rw same at made));
    }

pub returns-clause-held : goal.returns-clause-held
returns-clause-held g c =
    let same = c.close.ensures in
    λ keeps ready all. rw same (held_all c.args.self ready all (rw same at keeps))
