use Rattle.std.proofs.Common.{refl, sym, ◌∙◌}
use Rattle.std.proofs.lemmas.Result.{err_from_is_err_and}
use Rattle.ic_book.proofs.BookLemmas.{begun_on_disk, unchanged}
use Rattle.ic_book.proofs.StepLemmas.{idles, keep_refused, turns_page}
use Rattle.ic_book.proofs.book.Book.new_page.Goals as goal

pub returns-in_err-check_keepable-clause-crash : goal.returns-in_err-check_keepable-clause-crash
returns-in_err-check_keepable-clause-crash g c = unchanged g.met.D.Disk.left_is_image c.args.self.now

pub returns-in_err-check_keepable-clause-step : goal.returns-in_err-check_keepable-clause-step
returns-in_err-check_keepable-clause-step g c =
    let e = err_from_is_err_and c.from_residual.result c.from_residual.ensures.1 in
    keep_refused c.from_residual.result e.0 c.args.self.now c.args.self.now e.1 (idles g.met.D.Disk.left_is_image c.args.self.now)

pub returns-in_err-start-clause-step : goal.returns-in_err-start-clause-step
returns-in_err-start-clause-step g c =
    let e = err_from_is_err_and c.from_residual-in_err-start.result c.from_residual-in_err-start.ensures.1 in
    keep_refused c.from_residual-in_err-start.result e.0 c.args.self.now c.args.self.now e.1 (idles g.met.D.Disk.left_is_image c.args.self.now)

pub invariant_of-self-clause-on_disk : goal.invariant_of-self-clause-on_disk
invariant_of-self-clause-on_disk g c =
    begun_on_disk c.keep.new.self c.in_ok-start.start c.clear.new.self.entries.items c.in_ok-keep.ensures.all.ready c.in_ok-keep.ensures.kept
    (c.in_ok-start.ensures ∙ sym c.keep.ensures.all.table)

pub returns-in_err-keep-clause-step : goal.returns-in_err-keep-clause-step
returns-in_err-keep-clause-step g c =
    let e = err_from_is_err_and c.from_residual-in_err-keep.result c.from_residual-in_err-keep.ensures.1 in
    keep_refused c.from_residual-in_err-keep.result e.0 c.args.self.now c.keep.new.self e.1 c.in_err-keep.ensures.step

pub returns-clause-crash : goal.returns-clause-crash
returns-clause-crash g c =
    let crash = c.in_ok-keep.ensures.crash in
    record { keeps = crash.keeps; made = crash.made; any_moment = crash.any_moment }

pub returns-clause-step : goal.returns-clause-step
returns-clause-step g c =
    turns_page c.args.self.now _ c.in_ok-start.ensures c.clear.ensures c.in_ok-keep.ensures.all.table refl (returns-clause-crash g c) c.in_ok-check_keepable.ensures.ok c.in_ok-keep.ensures.all.ready
