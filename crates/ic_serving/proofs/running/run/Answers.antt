use Rattle.std.proofs.Common.{◌/◌, ◌⊎◌, inl, length}
use Rattle.ic_book.specs.Book.{is_broken, table_of, disk_of}
use Rattle.ic_lines.specs.Turns.{turns}
use Rattle.ic_serving.specs.Booked.{last_kept}
use Rattle.ic_serving.specs.Faults.{ComesBroken, ComesUnmade, ComesWithoutRound}
use Rattle.ic_serving.proofs.CallLemmas.{calls_end, calls_more}
use Rattle.ic_serving.proofs.RefusalLemmas.{err_comes, is_broken_told, not_true, not_unmade, of_keep}
use Rattle.ic_serving.proofs.RunLemmas.{run_ended, on_err}
use Rattle.ic_serving.proofs.PageLemmas.{goes_same, within_all}
use Rattle.ic_serving.specs.Parts.{IsBeforeRound, IsKeptWithin}
use Rattle.ic_serving.specs.Moments.{IsKeptOrNow}
use Rattle.ic_serving.proofs.StopLemmas.{kept_or_all}
use Rattle.ic_serving.specs.lemmas.Leaving.{leaves_then}
use Rattle.ic_book.specs.Moves.{keeps}
use Rattle.ic_serving.proofs.TurnLemmas.{ends_then}
use Rattle.ic_serving.proofs.running.run.Goals as goal

pub returns-in_err-keep_all-clause-begun : goal.returns-in_err-keep_all-clause-begun
returns-in_err-keep_all-clause-begun g c =
    let b = run_ended (table_of c.args.book.now) (last_kept c.args.book.now) (turns c.args.count 0 (table_of c.args.book.now))
    (table_of c.make_rounds.new.book) (last_kept c.make_rounds.new.book) (table_of c.keep_all.new.book) (last_kept c.keep_all.new.book)
    c.in_ok-made.ensures.table c.in_ok-made.ensures.within c.keep_all.ensures.table c.in_err-keep_all.ensures.unkept in
    on_err c.from_residual-in_err-keep_all.result _ (record {
      table = b.0;
      kept = b.1;
      page = λ room. within_all (turns c.args.count 0 (table_of c.args.book.now)) c.args.book.now c.keep_all.new.book
          (goes_same (turns c.args.count 0 (table_of c.args.book.now)) c.args.book.now c.make_rounds.new.book c.keep_all.new.book (c.in_ok-made.ensures.page room) c.keep_all.ensures.page);
    })

pub returns-clause-page : goal.returns-clause-page
returns-clause-page g c = λ room. goes_same (turns c.args.count 0 (table_of c.args.book.now)) c.args.book.now c.make_rounds.new.book c.keep_all.new.book
    (c.in_ok-made.ensures.page room) c.keep_all.ensures.page

pub returns-in_err-keep_all-clause-crash : goal.returns-in_err-keep_all-clause-crash
returns-in_err-keep_all-clause-crash g c = leaves_then c.args.book.now c.make_rounds.new.book c.keep_all.new.book
    (IsKeptWithin (table_of c.args.book.now) (last_kept c.args.book.now) (turns c.args.count 0 (table_of c.args.book.now))) (IsKeptOrNow c.make_rounds.new.book)
    c.make_rounds.ensures.crash c.keep_all.ensures.crash
    (λ u. kept_or_all (table_of c.args.book.now) (last_kept c.args.book.now) (turns c.args.count 0 (table_of c.args.book.now)) (table_of c.make_rounds.new.book) (last_kept c.make_rounds.new.book) u
    c.in_ok-made.ensures.table c.in_ok-made.ensures.within)

pub returns-clause-crash : goal.returns-clause-crash
returns-clause-crash g c = leaves_then c.args.book.now c.make_rounds.new.book c.keep_all.new.book
    (IsKeptWithin (table_of c.args.book.now) (last_kept c.args.book.now) (turns c.args.count 0 (table_of c.args.book.now))) (IsKeptOrNow c.make_rounds.new.book)
    c.make_rounds.ensures.crash c.keep_all.ensures.crash
    (λ u. kept_or_all (table_of c.args.book.now) (last_kept c.args.book.now) (turns c.args.count 0 (table_of c.args.book.now)) (table_of c.make_rounds.new.book) (last_kept c.make_rounds.new.book) u
    c.in_ok-made.ensures.table c.in_ok-made.ensures.within)

pub returns-clause-made : goal.returns-clause-made
returns-clause-made g c = ends_then keeps c.args.book.now c.make_rounds.new.book c.keep_all.new.book c.make_rounds.ensures.crash.done c.in_ok-keep_all.ensures.made

pub returns-in_err-keep_all-clause-idle : goal.returns-in_err-keep_all-clause-idle
returns-in_err-keep_all-clause-idle g c = λ none. err_comes c.from_residual-in_err-keep_all.result c.in_err-keep_all.field-0.0 ComesWithoutRound
    c.from_residual-in_err-keep_all.ensures.1 (of_keep c.in_err-keep_all.field-0.0 c.in_err-keep_all.ensures.others)

pub returns-in_err-keep_all-clause-unmade : goal.returns-in_err-keep_all-clause-unmade
returns-in_err-keep_all-clause-unmade g c = err_comes c.from_residual-in_err-keep_all.result c.in_err-keep_all.field-0.0
    (λ fault. ComesUnmade fault ⊎ IsBeforeRound (table_of c.args.book.now) (turns c.args.count 0 (table_of c.args.book.now)) (table_of c.keep_all.new.book))
    c.from_residual-in_err-keep_all.ensures.1
    (inl (not_unmade c.in_err-keep_all.field-0.0 (of_keep c.in_err-keep_all.field-0.0 c.in_err-keep_all.ensures.others)))

pub returns-in_err-keep_all-clause-broken : goal.returns-in_err-keep_all-clause-broken
returns-in_err-keep_all-clause-broken g c = λ is. err_comes c.from_residual-in_err-keep_all.result c.in_err-keep_all.field-0.0 ComesBroken
    c.from_residual-in_err-keep_all.ensures.1 (is_broken_told c.in_err-keep_all.field-0.0 (c.in_err-keep_all.ensures.broken.1 (c.in_ok-made.ensures.still is)))

pub returns-clause-unbroken : goal.returns-clause-unbroken
returns-clause-unbroken g c = not_true (is_broken c.args.book.now) (λ is. (let bad = c.in_ok-keep_all.ensures.broken.1 (c.in_ok-made.ensures.still is) in cc))

pub returns-in_err-made-clause-few_calls : goal.returns-in_err-made-clause-few_calls
returns-in_err-made-clause-few_calls g c = λ room. calls_more (length (turns c.args.count 0 (table_of c.args.book.now)) / c.args.every)
    (g.D.Disk.clock (disk_of c.args.book.now)) (g.D.Disk.clock (disk_of c.make_rounds.new.book)) (c.make_rounds.ensures.few_calls room)

pub returns-in_err-keep_all-clause-few_calls : goal.returns-in_err-keep_all-clause-few_calls
returns-in_err-keep_all-clause-few_calls g c = λ room. calls_end (length (turns c.args.count 0 (table_of c.args.book.now)) / c.args.every)
    (g.D.Disk.clock (disk_of c.args.book.now)) (g.D.Disk.clock (disk_of c.make_rounds.new.book)) (g.D.Disk.clock (disk_of c.keep_all.new.book))
    (c.make_rounds.ensures.few_calls room) c.keep_all.ensures.calls

pub returns-clause-few_calls : goal.returns-clause-few_calls
returns-clause-few_calls g c = λ room. calls_end (length (turns c.args.count 0 (table_of c.args.book.now)) / c.args.every)
    (g.D.Disk.clock (disk_of c.args.book.now)) (g.D.Disk.clock (disk_of c.make_rounds.new.book)) (g.D.Disk.clock (disk_of c.keep_all.new.book))
    (c.make_rounds.ensures.few_calls room) c.keep_all.ensures.calls
