use Rattle.std.proofs.Common.{◌≡◌, ◌⊎◌, ◌+◌, ◌-◌, ◌*◌, ◌/◌, [], None, length, inl, inr, ap, refl, ◌∙◌, arith}
use Rattle.ic_jobs.specs.Landing.{due}
use Rattle.ic_jobs.specs.Table.{IsTable}
use Rattle.ic_book.specs.Book.{table_of, start_of, log_of, kept_of, disk_of, IsUnchanged}
use Rattle.ic_serving.specs.Booked.{last_kept, unkept_of, MakesRound}
use Rattle.ic_serving.proofs.RefusalLemmas.{err_comes, is_broken_told, not_unmade, of_due, of_keep}
use Rattle.ic_serving.proofs.MadeLemmas.{run_unmade}
use Rattle.ic_serving.proofs.RunLemmas.{IsRun, at_first, run_full, one_more, keep_or_not, kept_same, run_idle, run_begun, run_nothing, turns_over, on_err}
use Rattle.ic_serving.proofs.CallLemmas.{at_least, calls_ended, calls_step, clock_same, clock_stays, run_few}
use Rattle.ic_serving.proofs.PageLemmas.{left, page_first, page_more, page_whole, page_within}
use Rattle.ic_lines.specs.Turns.{turns}
use Rattle.ic_serving.specs.Parts.{IsBeforeRound, IsKeptWithin}
use Rattle.ic_serving.specs.Faults.{ComesBroken, ComesUnmade, ComesWithoutRound}
use Rattle.ic_book.specs.lemmas.Chains.{by_nothing}
use Rattle.ic_serving.proofs.StopLemmas.{leaves_in_run}
use Rattle.ic_serving.specs.lemmas.Leaving.{leaves_nothing}
use Rattle.ic_serving.specs.lemmas.Unkept.{due_within, none_unkept, one_within}
use Rattle.ic_serving.proofs.running.make_rounds.Given as given
use Rattle.ic_serving.proofs.running.make_rounds.Goals as goal

pub loop-made-init : goal.loop-made-init
loop-made-init g c = record {
  run = at_first (table_of c.args.book.now) (last_kept c.args.book.now) c.args.count;
  counted = refl;
  ready = λ is. is;
  broken = λ is. is;
  page = page_first c.args.count c.args.book.now;
  few_unkept = λ all. let none = none_unkept c.args.book.now all in omega (arith, none);
  calls = λ room. at_least (g.D.Disk.clock (disk_of c.args.book.now)) (6 * (0 / c.args.every));
  moments = leaves_nothing c.args.book.now (IsKeptWithin (table_of c.args.book.now) (last_kept c.args.book.now) (turns c.args.count 0 (table_of c.args.book.now)))
      (g.met.D.Disk.left_is_image _) c.facts.ensures.either c.facts.ensures.history.replayed
      (by_nothing c.args.book.now c.facts.ensures.step) (inl refl)
      (inr (record { front = []; rest = turns c.args.count 0 (table_of c.args.book.now); parted = refl; leaves = refl }));
}

pub returns-in_err-make_round-clause-crash : goal.returns-in_err-make_round-clause-crash
returns-in_err-make_round-clause-crash g c = leaves_in_run c.args.book.now c.loop-made.book c.make_round.new.book c.args.count c.loop-made.made c.loop-made.place
    c.loop-made.invariant.run c.loop-made.invariant.moments c.make_round.ensures.crash

pub returns-in-None-clause-crash : goal.returns-in-None-clause-crash
returns-in-None-clause-crash g c = leaves_in_run c.args.book.now c.loop-made.book c.make_round.new.book c.args.count c.loop-made.made c.loop-made.place
    c.loop-made.invariant.run c.loop-made.invariant.moments c.make_round.ensures.crash

pub returns-in_err-make_round-clause-begun : goal.returns-in_err-make_round-clause-begun
returns-in_err-make_round-clause-begun g c =
    let s = c.in_err-make_round.ensures.refused in
    let b = run_begun (table_of c.args.book.now) (last_kept c.args.book.now) c.args.count c.loop-made.made c.loop-made.place
    (table_of c.loop-made.book) (last_kept c.loop-made.book) (table_of c.make_round.new.book) (last_kept c.make_round.new.book) c.loop-made.invariant.run s.table s.kept in
    on_err c.from_residual.result _ (record {
      table = b.0;
      kept = b.1;
      page = page_within c.args.count c.loop-made.made c.loop-made.place c.args.book.now c.loop-made.book c.loop-made.invariant.page c.make_round.new.book s.page;
    })

idle : (g : given.Over) (c : goal.In-None g) → IsRun (table_of c.args.book.now) (last_kept c.args.book.now) c.args.count c.loop-made.made
    (table_of c.make_round.new.book) (last_kept c.make_round.new.book)
idle g c =
    let none : due (table_of c.loop-made.book) c.loop-made.place ≡ None = rw c.in-None.is at c.in_ok-make_round.ensures.idle in
    let stays : IsUnchanged c.loop-made.book c.make_round.new.book = rw c.in-None.is at c.in_ok-make_round.ensures.stays in
    run_idle (table_of c.args.book.now) (last_kept c.args.book.now) c.args.count c.loop-made.made c.loop-made.place
    (table_of c.loop-made.book) (last_kept c.loop-made.book) (table_of c.make_round.new.book) (last_kept c.make_round.new.book)
    c.loop-made.invariant.run none stays.same_table
    (kept_same (start_of c.loop-made.book) (start_of c.make_round.new.book) (log_of c.loop-made.book) (log_of c.make_round.new.book)
    (kept_of c.loop-made.book) (kept_of c.make_round.new.book) stays.same_start stays.same_log stays.same_kept)

pub returns-in-None-clause-count : goal.returns-in-None-clause-count
returns-in-None-clause-count g c = (idle g c).counted

pub returns-in-None-clause-table : goal.returns-in-None-clause-table
returns-in-None-clause-table g c = (idle g c).leaves

pub returns-in-None-clause-within : goal.returns-in-None-clause-within
returns-in-None-clause-within g c = (idle g c).keeps

pub returns-in-None-clause-page : goal.returns-in-None-clause-page
returns-in-None-clause-page g c =
    let none : due (table_of c.loop-made.book) c.loop-made.place ≡ None = rw c.in-None.is at c.in_ok-make_round.ensures.idle in
    let stays : IsUnchanged c.loop-made.book c.make_round.new.book = rw c.in-None.is at c.in_ok-make_round.ensures.stays in
    page_whole c.args.count c.loop-made.made c.loop-made.place c.args.book.now c.loop-made.book c.loop-made.invariant.page c.make_round.new.book
    (turns_over (c.args.count - c.loop-made.made) c.loop-made.place (table_of c.loop-made.book) none) (record { start = stays.same_start; log = stays.same_log })

pub returns-clause-page : goal.returns-clause-page
returns-clause-page g c =
    let over : c.args.count - c.loop-made.made ≡ 0 = omega arith in
    page_whole c.args.count c.loop-made.made c.loop-made.place c.args.book.now c.loop-made.book c.loop-made.invariant.page c.loop-made.book
    (ap (λ n. turns n c.loop-made.place (table_of c.loop-made.book)) over) (record { start = refl; log = refl })

pub returns-in_err-keep_each-clause-begun : goal.returns-in_err-keep_each-clause-begun
returns-in_err-keep_each-clause-begun g c =
    let m : MakesRound c.args.limit c.loop-made.place c.in-Some.last c.loop-made.book c.make_round.new.book = rw c.in-Some.is at c.in_ok-make_round.ensures.made in
    let more = one_more (table_of c.args.book.now) (last_kept c.args.book.now) c.args.count c.loop-made.made c.loop-made.place
    (table_of c.loop-made.book) (last_kept c.loop-made.book) (table_of c.make_round.new.book) (last_kept c.make_round.new.book)
    m.flight c.loop-made.invariant.run c.loop-made-test.true m.is_due m.advances.table m.advances.kept in
    let b = run_begun (table_of c.args.book.now) (last_kept c.args.book.now) c.args.count (c.loop-made.made + 1) (m.flight.place + 1)
    (table_of c.make_round.new.book) (last_kept c.make_round.new.book) (table_of c.keep_each.new.book) (last_kept c.keep_each.new.book)
    more c.keep_each.ensures.table (inl c.in_err-keep_each.ensures.unkept) in
    let paged = page_more c.args.count c.loop-made.made c.loop-made.place c.args.book.now c.loop-made.book c.loop-made.invariant.page m.flight
    c.make_round.new.book c.keep_each.new.book c.loop-made-test.true m.is_due m.advances.table m.page c.keep_each.ensures.table c.keep_each.ensures.page in
    on_err c.from_residual-in_err-keep_each.result _ (record {
      table = b.0;
      kept = b.1;
      page = page_within c.args.count (c.loop-made.made + 1) (m.flight.place + 1) c.args.book.now c.keep_each.new.book paged c.keep_each.new.book
          (λ room. record { start = refl; log = refl });
    })

pub returns-in_err-keep_each-clause-crash : goal.returns-in_err-keep_each-clause-crash
returns-in_err-keep_each-clause-crash g c =
    let m : MakesRound c.args.limit c.loop-made.place c.in-Some.last c.loop-made.book c.make_round.new.book = rw c.in-Some.is at c.in_ok-make_round.ensures.made in
    let more = one_more (table_of c.args.book.now) (last_kept c.args.book.now) c.args.count c.loop-made.made c.loop-made.place
    (table_of c.loop-made.book) (last_kept c.loop-made.book) (table_of c.make_round.new.book) (last_kept c.make_round.new.book)
    m.flight c.loop-made.invariant.run c.loop-made-test.true m.is_due m.advances.table m.advances.kept in
    leaves_in_run c.args.book.now c.make_round.new.book c.keep_each.new.book c.args.count (c.loop-made.made + 1) (m.flight.place + 1) more
    (leaves_in_run c.args.book.now c.loop-made.book c.make_round.new.book c.args.count c.loop-made.made c.loop-made.place
    c.loop-made.invariant.run c.loop-made.invariant.moments c.make_round.ensures.crash)
    c.keep_each.ensures.crash

pub loop-made-preserved : goal.loop-made-preserved
loop-made-preserved g c =
    let m : MakesRound c.args.limit c.loop-made.place c.in-Some.last c.loop-made.book c.make_round.new.book = rw c.in-Some.is at c.in_ok-make_round.ensures.made in
    let more = one_more (table_of c.args.book.now) (last_kept c.args.book.now) c.args.count c.loop-made.made c.loop-made.place
    (table_of c.loop-made.book) (last_kept c.loop-made.book) (table_of c.make_round.new.book) (last_kept c.make_round.new.book)
    m.flight c.loop-made.invariant.run c.loop-made-test.true m.is_due m.advances.table m.advances.kept in
    record {
      run = rw m.here (keep_or_not (table_of c.args.book.now) (last_kept c.args.book.now) c.args.count (c.loop-made.made + 1) (m.flight.place + 1)
          (table_of c.make_round.new.book) (last_kept c.make_round.new.book) (table_of c.keep_each.new.book) (last_kept c.keep_each.new.book)
          more c.keep_each.ensures.table c.in_ok-keep_each.ensures.kept);
      counted = c.in_ok-keep_each.ensures.fault.counted ∙ c.in_ok-make_round.ensures.fault.counted ∙ c.loop-made.invariant.counted;
      broken = λ is. (let bad = c.in_ok-make_round.ensures.broken.1 (c.loop-made.invariant.broken is) in cc);
      ready = λ is. c.in_ok-keep_each.ensures.fault.ready (c.in_ok-make_round.ensures.fault.ready (c.loop-made.invariant.ready is));
      page = rw m.here (page_more c.args.count c.loop-made.made c.loop-made.place c.args.book.now c.loop-made.book c.loop-made.invariant.page m.flight
          c.make_round.new.book c.keep_each.new.book c.loop-made-test.true m.is_due m.advances.table m.page c.keep_each.ensures.table c.keep_each.ensures.page);
      few_unkept = λ all. due_within c.loop-made.made (c.loop-made.made + 1) c.args.every (unkept_of c.loop-made.book) (unkept_of c.make_round.new.book)
          (unkept_of c.keep_each.new.book) c.requires.every (inl refl) (c.loop-made.invariant.few_unkept all) c.make_round.ensures.one c.keep_each.ensures.fewer
          (λ due. none_unkept c.keep_each.new.book (c.in_ok-keep_each.ensures.due due));
      calls = λ room. calls_step c.loop-made.made c.args.every (g.D.Disk.clock (disk_of c.args.book.now)) (g.D.Disk.clock (disk_of c.loop-made.book)) (g.D.Disk.clock (disk_of c.make_round.new.book))
          (g.D.Disk.clock (disk_of c.keep_each.new.book)) c.requires.every (c.loop-made.invariant.calls room)
          (clock_same c.loop-made.book c.make_round.new.book
          (c.make_round.ensures.still (left c.args.count c.loop-made.made c.loop-made.place c.args.book.now c.loop-made.book c.loop-made.invariant.page room)))
          c.keep_each.ensures.calls (λ other. clock_stays c.make_round.new.book c.keep_each.new.book (c.keep_each.ensures.stays other));
      moments = leaves_in_run c.args.book.now c.make_round.new.book c.keep_each.new.book c.args.count (c.loop-made.made + 1) (m.flight.place + 1) more
          (leaves_in_run c.args.book.now c.loop-made.book c.make_round.new.book c.args.count c.loop-made.made c.loop-made.place
          c.loop-made.invariant.run c.loop-made.invariant.moments c.make_round.ensures.crash)
          c.keep_each.ensures.crash;
    }

pub returns-in_err-make_round-clause-few_unkept : goal.returns-in_err-make_round-clause-few_unkept
returns-in_err-make_round-clause-few_unkept g c = λ all.
    one_within c.loop-made.made c.args.every (unkept_of c.loop-made.book) (unkept_of c.make_round.new.book) c.requires.every (c.loop-made.invariant.few_unkept all) c.make_round.ensures.one

pub returns-in-None-clause-few_unkept : goal.returns-in-None-clause-few_unkept
returns-in-None-clause-few_unkept g c = λ all.
    one_within c.loop-made.made c.args.every (unkept_of c.loop-made.book) (unkept_of c.make_round.new.book) c.requires.every (c.loop-made.invariant.few_unkept all) c.make_round.ensures.one

pub returns-in_err-keep_each-clause-few_unkept : goal.returns-in_err-keep_each-clause-few_unkept
returns-in_err-keep_each-clause-few_unkept g c = λ all.
    let fewer = c.keep_each.ensures.fewer in
    let one = c.make_round.ensures.one in
    one_within c.loop-made.made c.args.every (unkept_of c.loop-made.book) (unkept_of c.keep_each.new.book) c.requires.every (c.loop-made.invariant.few_unkept all) (omega (arith, fewer, one))

pub returns-clause-few_unkept : goal.returns-clause-few_unkept
returns-clause-few_unkept g c = λ all.
    one_within c.loop-made.made c.args.every (unkept_of c.loop-made.book) (unkept_of c.loop-made.book) c.requires.every (c.loop-made.invariant.few_unkept all) (omega arith)

pub returns-clause-within : goal.returns-clause-within
returns-clause-within g c =
    (run_full (table_of c.args.book.now) (last_kept c.args.book.now) c.args.count c.loop-made.made c.loop-made.place (table_of c.loop-made.book) (last_kept c.loop-made.book)
    c.loop-made.invariant.run (omega arith)).keeps

pub returns-in_err-make_round-clause-idle : goal.returns-in_err-make_round-clause-idle
returns-in_err-make_round-clause-idle g c = λ none.
    let nothing : due (table_of c.loop-made.book) c.loop-made.place ≡ None = run_nothing (table_of c.args.book.now) (last_kept c.args.book.now) c.args.count c.loop-made.made c.loop-made.place
    (table_of c.loop-made.book) (last_kept c.loop-made.book) c.loop-made.invariant.run c.loop-made-test.true none in
    err_comes c.from_residual.result c.in_err-make_round.field-0.0 ComesWithoutRound c.from_residual.ensures.1
    (of_due c.in_err-make_round.field-0.0 (c.in_err-make_round.ensures.nothing nothing))

pub returns-in_err-keep_each-clause-idle : goal.returns-in_err-keep_each-clause-idle
returns-in_err-keep_each-clause-idle g c = λ none. err_comes c.from_residual-in_err-keep_each.result c.in_err-keep_each.field-0.0 ComesWithoutRound
    c.from_residual-in_err-keep_each.ensures.1 (of_keep c.in_err-keep_each.field-0.0 c.in_err-keep_each.ensures.others)

pub returns-in_err-make_round-clause-unmade : goal.returns-in_err-make_round-clause-unmade
returns-in_err-make_round-clause-unmade g c =
    let sound : IsTable (table_of c.loop-made.book) = rw c.table.ensures at c.jobs-jobs.ensures.sound in
    err_comes c.from_residual.result c.in_err-make_round.field-0.0
    (λ fault. ComesUnmade fault ⊎ IsBeforeRound (table_of c.args.book.now) (turns c.args.count 0 (table_of c.args.book.now)) (table_of c.make_round.new.book))
    c.from_residual.ensures.1
    (run_unmade c.what_is_due_is_awaited.ensures.due (table_of c.args.book.now) (last_kept c.args.book.now) c.args.count c.loop-made.made c.loop-made.place
    (table_of c.loop-made.book) (last_kept c.loop-made.book) (table_of c.make_round.new.book) c.in_err-make_round.field-0.0 c.loop-made.invariant.run c.loop-made-test.true
    sound c.in_err-make_round.ensures.refused.table c.in_err-make_round.ensures.nothing c.in_err-make_round.ensures.blocked)

pub returns-in_err-keep_each-clause-unmade : goal.returns-in_err-keep_each-clause-unmade
returns-in_err-keep_each-clause-unmade g c = err_comes c.from_residual-in_err-keep_each.result c.in_err-keep_each.field-0.0
    (λ fault. ComesUnmade fault ⊎ IsBeforeRound (table_of c.args.book.now) (turns c.args.count 0 (table_of c.args.book.now)) (table_of c.keep_each.new.book))
    c.from_residual-in_err-keep_each.ensures.1
    (inl (not_unmade c.in_err-keep_each.field-0.0 (of_keep c.in_err-keep_each.field-0.0 c.in_err-keep_each.ensures.others)))

pub returns-in_err-make_round-clause-broken : goal.returns-in_err-make_round-clause-broken
returns-in_err-make_round-clause-broken g c = λ is. err_comes c.from_residual.result c.in_err-make_round.field-0.0 ComesBroken c.from_residual.ensures.1
    (is_broken_told c.in_err-make_round.field-0.0 (c.in_err-make_round.ensures.broken.1 (c.loop-made.invariant.broken is)))

pub returns-in-None-clause-still : goal.returns-in-None-clause-still
returns-in-None-clause-still g c = λ is. (let bad = c.in_ok-make_round.ensures.broken.1 (c.loop-made.invariant.broken is) in cc)

pub returns-in_err-keep_each-clause-broken : goal.returns-in_err-keep_each-clause-broken
returns-in_err-keep_each-clause-broken g c = λ is. (let bad = c.in_ok-make_round.ensures.broken.1 (c.loop-made.invariant.broken is) in cc)

pub returns-clause-still : goal.returns-clause-still
returns-clause-still g c = c.loop-made.invariant.broken

pub returns-in_err-make_round-clause-few_calls : goal.returns-in_err-make_round-clause-few_calls
returns-in_err-make_round-clause-few_calls g c = λ room.
    calls_ended c.loop-made.made (length (turns c.args.count 0 (table_of c.args.book.now))) c.args.every (g.D.Disk.clock (disk_of c.args.book.now)) (g.D.Disk.clock (disk_of c.loop-made.book))
    (g.D.Disk.clock (disk_of c.make_round.new.book)) c.requires.every
    (run_few (table_of c.args.book.now) (last_kept c.args.book.now) c.args.count c.loop-made.made c.loop-made.place (table_of c.loop-made.book) (last_kept c.loop-made.book) c.loop-made.invariant.run)
    (c.loop-made.invariant.calls room)
    (clock_same c.loop-made.book c.make_round.new.book
    (c.make_round.ensures.still (left c.args.count c.loop-made.made c.loop-made.place c.args.book.now c.loop-made.book c.loop-made.invariant.page room)))

pub returns-in-None-clause-few_calls : goal.returns-in-None-clause-few_calls
returns-in-None-clause-few_calls g c = λ room.
    calls_ended c.loop-made.made (length (turns c.args.count 0 (table_of c.args.book.now))) c.args.every (g.D.Disk.clock (disk_of c.args.book.now)) (g.D.Disk.clock (disk_of c.loop-made.book))
    (g.D.Disk.clock (disk_of c.make_round.new.book)) c.requires.every
    (run_few (table_of c.args.book.now) (last_kept c.args.book.now) c.args.count c.loop-made.made c.loop-made.place (table_of c.loop-made.book) (last_kept c.loop-made.book) c.loop-made.invariant.run)
    (c.loop-made.invariant.calls room)
    (clock_same c.loop-made.book c.make_round.new.book
    (c.make_round.ensures.still (left c.args.count c.loop-made.made c.loop-made.place c.args.book.now c.loop-made.book c.loop-made.invariant.page room)))

pub returns-in_err-keep_each-clause-few_calls : goal.returns-in_err-keep_each-clause-few_calls
returns-in_err-keep_each-clause-few_calls g c = λ room.
    let m : MakesRound c.args.limit c.loop-made.place c.in-Some.last c.loop-made.book c.make_round.new.book = rw c.in-Some.is at c.in_ok-make_round.ensures.made in
    let more = one_more (table_of c.args.book.now) (last_kept c.args.book.now) c.args.count c.loop-made.made c.loop-made.place
    (table_of c.loop-made.book) (last_kept c.loop-made.book) (table_of c.make_round.new.book) (last_kept c.make_round.new.book)
    m.flight c.loop-made.invariant.run c.loop-made-test.true m.is_due m.advances.table m.advances.kept in
    calls_ended (c.loop-made.made + 1) (length (turns c.args.count 0 (table_of c.args.book.now))) c.args.every (g.D.Disk.clock (disk_of c.args.book.now)) (g.D.Disk.clock (disk_of c.keep_each.new.book))
    (g.D.Disk.clock (disk_of c.keep_each.new.book)) c.requires.every
    (run_few (table_of c.args.book.now) (last_kept c.args.book.now) c.args.count (c.loop-made.made + 1) (m.flight.place + 1) (table_of c.make_round.new.book) (last_kept c.make_round.new.book) more)
    (calls_step c.loop-made.made c.args.every (g.D.Disk.clock (disk_of c.args.book.now)) (g.D.Disk.clock (disk_of c.loop-made.book)) (g.D.Disk.clock (disk_of c.make_round.new.book))
    (g.D.Disk.clock (disk_of c.keep_each.new.book)) c.requires.every (c.loop-made.invariant.calls room)
    (clock_same c.loop-made.book c.make_round.new.book
    (c.make_round.ensures.still (left c.args.count c.loop-made.made c.loop-made.place c.args.book.now c.loop-made.book c.loop-made.invariant.page room)))
    c.keep_each.ensures.calls (λ other. clock_stays c.make_round.new.book c.keep_each.new.book (c.keep_each.ensures.stays other)))
    refl

pub returns-clause-few_calls : goal.returns-clause-few_calls
returns-clause-few_calls g c = λ room.
    calls_ended c.loop-made.made (length (turns c.args.count 0 (table_of c.args.book.now))) c.args.every (g.D.Disk.clock (disk_of c.args.book.now)) (g.D.Disk.clock (disk_of c.loop-made.book))
    (g.D.Disk.clock (disk_of c.loop-made.book)) c.requires.every
    (run_few (table_of c.args.book.now) (last_kept c.args.book.now) c.args.count c.loop-made.made c.loop-made.place (table_of c.loop-made.book) (last_kept c.loop-made.book) c.loop-made.invariant.run)
    (c.loop-made.invariant.calls room) refl
