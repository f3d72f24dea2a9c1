use Rattle.std.proofs.Common.{◌∙◌, ◌++◌, sym, subst}
use Rattle.ic_book.specs.Book.{start_of}
use Rattle.ic_book.specs.Entries.{command_entry}
use Rattle.ic_jobs.specs.History.{IsLegal}
use Rattle.ic_attend.specs.OneHistory.{kept_log, unkept_log}
use Rattle.ic_attend.proofs.HistoryLemmas.{cut}
use Rattle.ic_attend.proofs.PartLemmas.{place_of}
use Rattle.ic_attend.proofs.laws.each_answer_is_the_tables.Goals as goal

pub returns : goal.returns
returns g c = λ scripts runners turns who run before after command reply history found is.
    let a = c.args.attended.now in
    let place = place_of who (kept_log a) before after command reply (sym (history.answers who run found) ∙ is) in
    let e = command_entry who command reply in
    let split = cut a place.front place.back e place.split in
    let legal = subst (IsLegal (start_of a.book)) split history.legal in (
      place.front,
      place.back ++ unkept_log a,
      split,
      place.earlier,
      c.a_client_reads_what_came_before.ensures.answered (start_of a.book) place.front (place.back ++ unkept_log a) e legal,
    )
