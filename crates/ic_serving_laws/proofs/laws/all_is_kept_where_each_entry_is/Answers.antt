use Rattle.std.proofs.Common.{arith}
use Rattle.ic_book.specs.Book.{start_of, log_of, table_of, kept_of}
use Rattle.ic_serving.specs.lemmas.Reaching.{kept_all}
use Rattle.ic_serving_laws.proofs.laws.all_is_kept_where_each_entry_is.Goals as goal

pub returns-clause-all : goal.returns-clause-all
returns-clause-all g c = (λ h. h, λ h. h)

pub returns-clause-table : goal.returns-clause-table
returns-clause-table g c =
    kept_all (start_of c.args.book.now) (table_of c.args.book.now) (log_of c.args.book.now) (kept_of c.args.book.now) c.facts.ensures.history.replayed

pub returns-clause-unkept : goal.returns-clause-unkept
returns-clause-unkept g c =
    let within = c.facts.ensures.history.within in
    omega (arith, within)
