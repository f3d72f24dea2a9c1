use Rattle.std.proofs.Common.{List, subst, sym}
use Rattle.ic_jobs.specs.Job.{JobParts}
use Rattle.ic_book.specs.Book.{kept_of, log_of, start_of, table_of}
use Rattle.ic_book.specs.lemmas.Facts.{history_of}
use Rattle.ic_serving.specs.lemmas.Reaching.{kept_all}
use Rattle.ic_batch.specs.Way.{AreOnWay}
use Rattle.ic_batch.proofs.laws.books_that_keep_all_have_jobs_on_their_way.Goals as goal

pub returns : goal.returns
returns g c most jobs all ways =
    let book = c.args.book.now in
    let same = kept_all (start_of book) (table_of book) (log_of book) (kept_of book) (history_of book).replayed all in
    record { table = ways; kept = subst (λ (t : List JobParts). AreOnWay most jobs t) (sym same) ways }
