use Rattle.std.proofs.Common.{◌≡◌, ◌∙◌, true, false, length, refl, sym, arith}
use Rattle.std.proofs.lemmas.Result.{err_from_is_err_and}
use Rattle.ic_book.proofs.BookLemmas.{failed_on_disk, kept_on_disk, stands_here, unchanged, written}
use Rattle.ic_book.proofs.StepLemmas.{idles, keep_refused, keeps_page, stays_on}
use Rattle.ic_book.proofs.book.Book.keep.Goals as goal

pub returns-in_err-check_keepable-clause-crash : goal.returns-in_err-check_keepable-clause-crash
returns-in_err-check_keepable-clause-crash g c = unchanged g.met.D.Disk.left_is_image c.args.self.now

pub returns-then-self-len-clause-crash : goal.returns-then-self-len-clause-crash
returns-then-self-len-clause-crash g c = unchanged g.met.D.Disk.left_is_image c.args.self.now

pub returns-then-self-len-clause-step : goal.returns-then-self-len-clause-step
returns-then-self-len-clause-step g c =
    let book = c.args.self.now in
    let ready = c.in_ok-check_keepable.ensures.ok in
    keeps_page book book refl refl refl (omega (arith, c.if-self-len.true, c.len.ensures)) (unchanged g.met.D.Disk.left_is_image book) ready ready

pub invariant_of-self : goal.invariant_of-self
invariant_of-self g c =
    let book = c.args.self.now in
    let keeper = c.keep_table.new.keeper in
    let broke = c.in_err-keep_table.ensures.breaks in
    record {
      history = (stands_here book).left keeper.frames.broken;
      on_disk = failed_on_disk book book.log.entries.items book.table (stands_here book) keeper c.keep_table.ensures.keeps c.in_ok-check_keepable.ensures.ok broke c.keep_table.ensures.either_if_made;
      newest = λ _ whole. let never : true ≡ false = sym broke ∙ whole in cc;
    }

pub invariant_of-self-2 : goal.invariant_of-self-2
invariant_of-self-2 g c =
    let book = c.args.self.now in
    let keeper = c.keep_table.new.keeper in
    let count : c.len-self.result ≡ length book.log.entries.items = omega (arith, c.len-self.ensures) in
    record {
      history = (stands_here book).kept keeper.frames.broken c.len-self.result count c.keep_table.ensures.sound;
      on_disk = kept_on_disk book book.log.entries.items book.table (stands_here book) keeper c.keep_table.ensures.keeps c.len-self.result count c.in_ok-keep_table.ensures.held c.in_ok-keep_table.ensures.holds;
      newest = λ keeps _. c.in_ok-keep_table.ensures.newest (sym c.keep_table.ensures.keeps ∙ keeps);
    }

pub returns-in_err-keep_table-clause-crash : goal.returns-in_err-keep_table-clause-crash
returns-in_err-keep_table-clause-crash g c =
    written c.args.self.now.log.entries.items c.args.self.now _ c.args.self.now.table (stands_here c.args.self.now) c.in_ok-check_keepable.ensures.ok g.met.D.Disk.image_is_left
    c.keep_table.ensures.keeps c.keep_table.ensures.any_moment

pub returns-clause-crash : goal.returns-clause-crash
returns-clause-crash g c =
    written c.args.self.now.log.entries.items c.args.self.now _ c.args.self.now.table (stands_here c.args.self.now) c.in_ok-check_keepable.ensures.ok g.met.D.Disk.image_is_left
    c.keep_table.ensures.keeps c.keep_table.ensures.any_moment

pub returns-in_err-check_keepable-clause-step : goal.returns-in_err-check_keepable-clause-step
returns-in_err-check_keepable-clause-step g c =
    let e = err_from_is_err_and c.from_residual.result c.from_residual.ensures.1 in
    keep_refused c.from_residual.result e.0 c.args.self.now c.args.self.now e.1 (idles g.met.D.Disk.left_is_image c.args.self.now)

pub returns-in_err-keep_table-clause-step : goal.returns-in_err-keep_table-clause-step
returns-in_err-keep_table-clause-step g c =
    let e = err_from_is_err_and c.from_residual-in_err-keep_table.result c.from_residual-in_err-keep_table.ensures.1 in
    keep_refused c.from_residual-in_err-keep_table.result e.0 c.args.self.now _ e.1
    (stays_on c.args.self.now _ refl refl refl refl (returns-in_err-keep_table-clause-crash g c) (λ _. c.in_err-keep_table.ensures.breaks))

pub returns-clause-step : goal.returns-clause-step
returns-clause-step g c =
    let book = c.args.self.now in
    let count : c.len-self.result ≡ length book.log.entries.items = omega (arith, c.len-self.ensures) in
    keeps_page book _ refl refl refl count (returns-clause-crash g c) c.in_ok-check_keepable.ensures.ok c.in_ok-keep_table.ensures.ready
