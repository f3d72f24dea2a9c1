use Rattle.std.proofs.Common.{◌≡◌, ◌<◌, ◌∙◌, List, inl, inr, length, sym, ap, subst, arith}
use Rattle.ic_jobs.specs.Job.{JobParts}
use Rattle.ic_book.specs.Book.{table_of}
use Rattle.ic_book.specs.lemmas.Facts.{history_of}
use Rattle.ic_serving.specs.Faults.{ComesWithoutRound}
use Rattle.ic_batch.specs.Faults.{ComesOverBroken}
use Rattle.ic_batch.specs.inner.Staying.{AreBegun}
use Rattle.ic_batch.proofs.CallLemmas.{come_kept, come_same, no_calls, one_keep, clock_same}
use Rattle.ic_batch.proofs.ComeLemmas.{err_comes, of_keep, told_broken}
use Rattle.ic_batch.proofs.LeadLemmas.{leads_on}
use Rattle.ic_batch.proofs.submitting.submit_missing.Goals as goal

-- ---- a submit failed

pub returns-in_err-take_missing-clause-few_calls : goal.returns-in_err-take_missing-clause-few_calls
returns-in_err-take_missing-clause-few_calls g c = λ room. no_calls c.args.book.now c.take_missing.new.book (c.take_missing.ensures.keeper room)

-- ---- none came

pub returns-then-same-clause-kept : goal.returns-then-same-clause-kept
returns-then-same-clause-kept g c = λ before.
    let few = c.in_ok-take_missing.ensures.kept before in
    let within = (history_of c.take_missing.new.book).within in
    let held = c.count_jobs-held.ensures ∙ ap length c.table-before.ensures in
    let now = c.count_jobs.ensures ∙ ap length c.table-after.ensures in
    omega (arith, few, within, c.if-same.true, held, now)

pub returns-then-same-clause-few_calls : goal.returns-then-same-clause-few_calls
returns-then-same-clause-few_calls g c = λ room. no_calls c.args.book.now c.take_missing.new.book (c.take_missing.ensures.keeper room)

pub returns-then-same-clause-come : goal.returns-then-same-clause-come
returns-then-same-clause-come g c = λ room. come_same c.args.book.now c.take_missing.new.book (c.in_ok-take_missing.ensures.come room)

-- ---- the keep failed

pub returns-in_err-keep_all-clause-leads : goal.returns-in_err-keep_all-clause-leads
returns-in_err-keep_all-clause-leads g c =
    let such = AreBegun c.args.jobs.now (table_of c.args.book.now) in
    leads_on such c.args.book.now c.take_missing.new.book c.keep_all.new.book c.take_missing.ensures.leads
    (subst such (sym c.keep_all.ensures.table) c.take_missing.ensures.leads.table) (inl c.in_err-keep_all.ensures.unkept) c.keep_all.ensures.crash

pub returns-in_err-keep_all-clause-comes : goal.returns-in_err-keep_all-clause-comes
returns-in_err-keep_all-clause-comes g c = err_comes c.from_residual-in_err-keep_all.result c.in_err-keep_all.field-0.0 ComesWithoutRound
    c.from_residual-in_err-keep_all.ensures.1 (of_keep c.in_err-keep_all.field-0.0 c.in_err-keep_all.ensures.others)

pub returns-in_err-keep_all-clause-broken : goal.returns-in_err-keep_all-clause-broken
returns-in_err-keep_all-clause-broken g c = λ is. err_comes c.from_residual-in_err-keep_all.result c.in_err-keep_all.field-0.0 ComesOverBroken
    c.from_residual-in_err-keep_all.ensures.1 (told_broken c.in_err-keep_all.field-0.0 (c.in_err-keep_all.ensures.broken.1 (c.in_ok-take_missing.ensures.still is)))

pub returns-in_err-keep_all-clause-few_unkept : goal.returns-in_err-keep_all-clause-few_unkept
returns-in_err-keep_all-clause-few_unkept g c = λ all.
    let few = c.take_missing.ensures.few_unkept all in
    let fewer = c.keep_all.ensures.fewer in
    omega (arith, few, fewer)

pub returns-in_err-keep_all-clause-few_calls : goal.returns-in_err-keep_all-clause-few_calls
returns-in_err-keep_all-clause-few_calls g c = λ room.
    let same : table_of c.keep_all.new.book ≡ table_of c.take_missing.new.book = c.keep_all.ensures.table in
    let held : c.count_jobs-held.result ≡ length (table_of c.args.book.now) = c.count_jobs-held.ensures ∙ ap length c.table-before.ensures in
    let now : c.count_jobs.result ≡ length (table_of c.take_missing.new.book) = c.count_jobs.ensures ∙ ap length c.table-after.ensures in
    let more = c.in_ok-take_missing.ensures.more in
    let some : length (table_of c.args.book.now) < length (table_of c.take_missing.new.book) = omega (arith, more, c.if-same.false, held, now) in
    one_keep c.args.book.now c.take_missing.new.book c.keep_all.new.book
    (clock_same c.args.book.now c.take_missing.new.book (c.take_missing.ensures.keeper (rw (sym same) room))) c.keep_all.ensures.calls
    (subst (λ (t : List JobParts). length (table_of c.args.book.now) < length t) (sym same) some)

-- ---- all is kept

pub returns-clause-leads : goal.returns-clause-leads
returns-clause-leads g c =
    let such = AreBegun c.args.jobs.now (table_of c.args.book.now) in
    leads_on such c.args.book.now c.take_missing.new.book c.keep_all.new.book c.take_missing.ensures.leads
    (subst such (sym c.keep_all.ensures.table) c.take_missing.ensures.leads.table) (inr c.in_ok-keep_all.ensures.last) c.keep_all.ensures.crash

pub returns-clause-all : goal.returns-clause-all
returns-clause-all g c = c.keep_all.ensures.table ∙ c.in_ok-take_missing.ensures.all

pub returns-clause-kept : goal.returns-clause-kept
returns-clause-kept g c = λ before. c.in_ok-keep_all.ensures.kept

pub returns-clause-still : goal.returns-clause-still
returns-clause-still g c = λ is. (let bad = c.in_ok-keep_all.ensures.broken.1 (c.in_ok-take_missing.ensures.still is) in cc)

pub returns-clause-few_unkept : goal.returns-clause-few_unkept
returns-clause-few_unkept g c = λ all.
    let few = c.take_missing.ensures.few_unkept all in
    let fewer = c.keep_all.ensures.fewer in
    omega (arith, few, fewer)

pub returns-clause-few_calls : goal.returns-clause-few_calls
returns-clause-few_calls g c = λ room.
    let same : table_of c.keep_all.new.book ≡ table_of c.take_missing.new.book = c.keep_all.ensures.table in
    let held : c.count_jobs-held.result ≡ length (table_of c.args.book.now) = c.count_jobs-held.ensures ∙ ap length c.table-before.ensures in
    let now : c.count_jobs.result ≡ length (table_of c.take_missing.new.book) = c.count_jobs.ensures ∙ ap length c.table-after.ensures in
    let more = c.in_ok-take_missing.ensures.more in
    let some : length (table_of c.args.book.now) < length (table_of c.take_missing.new.book) = omega (arith, more, c.if-same.false, held, now) in
    one_keep c.args.book.now c.take_missing.new.book c.keep_all.new.book
    (clock_same c.args.book.now c.take_missing.new.book (c.take_missing.ensures.keeper (rw (sym same) room))) c.keep_all.ensures.calls
    (subst (λ (t : List JobParts). length (table_of c.args.book.now) < length t) (sym same) some)

pub returns-clause-come : goal.returns-clause-come
returns-clause-come g c = λ room.
    let same : table_of c.keep_all.new.book ≡ table_of c.take_missing.new.book = c.keep_all.ensures.table in
    let held : c.count_jobs-held.result ≡ length (table_of c.args.book.now) = c.count_jobs-held.ensures ∙ ap length c.table-before.ensures in
    let now : c.count_jobs.result ≡ length (table_of c.take_missing.new.book) = c.count_jobs.ensures ∙ ap length c.table-after.ensures in
    let more = c.in_ok-take_missing.ensures.more in
    let some : length (table_of c.args.book.now) < length (table_of c.take_missing.new.book) = omega (arith, more, c.if-same.false, held, now) in
    come_kept c.args.book.now c.take_missing.new.book c.keep_all.new.book (c.in_ok-take_missing.ensures.come (rw (sym same) room)) same c.keep_all.ensures.page c.keep_all.ensures.calls
    (subst (λ (t : List JobParts). length (table_of c.args.book.now) < length t) (sym same) some)
