use Rattle.std.proofs.lemmas.Result.{err_from_is_err_and}
use Rattle.ic_book.proofs.StepLemmas.{full_or_broken}
use Rattle.ic_book.proofs.book.Book.check_command.Goals as goal

pub returns-in_err-check_room-clause-others : goal.returns-in_err-check_room-clause-others
returns-in_err-check_room-clause-others g c =
    let e = err_from_is_err_and c.from_residual.result c.from_residual.ensures.1 in
    rw (e.1, e.2) (full_or_broken c.in_err-check_room.field-0.0 c.in_err-check_room.ensures.others)
