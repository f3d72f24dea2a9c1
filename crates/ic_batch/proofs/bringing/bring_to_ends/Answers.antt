use Rattle.std.proofs.Common.{inl, inr, ◌∙◌, List, ap, sym, subst, arith}
use Rattle.ic_jobs.specs.Job.{JobParts}
use Rattle.ic_book.specs.Book.{is_broken, table_of}
use Rattle.ic_batch.specs.Faults.{ComesOverBroken, ComesWith}
use Rattle.ic_batch.specs.Way.{fetched_all, HaveEnded, IsUnderWay}
use Rattle.ic_batch.specs.inner.Staying.{AreBegun}
use Rattle.ic_batch.proofs.BatchLemmas.{all_ended, leads_under, under_begun}
use Rattle.ic_batch.proofs.CallLemmas.{few_kept, few_rounds, few_submits, ways_long}
use Rattle.ic_batch.proofs.ComeLemmas.{comes_anyhow, err_comes, not_true, of_keep, told_broken}
use Rattle.ic_batch.proofs.LeadLemmas.{leads_more, leads_on}
use Rattle.ic_batch.proofs.bringing.bring_to_ends.Goals as goal

pub returns-in_err-submit_missing-clause-leads : goal.returns-in_err-submit_missing-clause-leads
returns-in_err-submit_missing-clause-leads g c =
    let jobs = c.args.jobs.now in
    let t = table_of c.args.book.now in
    leads_more (AreBegun jobs t) (IsUnderWay c.args.most jobs t) c.args.book.now c.submit_missing.new.book c.submit_missing.ensures.leads (λ u is. under_begun c.args.most jobs t u is)

pub returns-in_err-make_rounds-clause-leads : goal.returns-in_err-make_rounds-clause-leads
returns-in_err-make_rounds-clause-leads g c = leads_under c.args.most c.args.jobs.now c.args.book.now c.submit_missing.new.book c.make_rounds.new.book
    c.submit_missing.ensures.leads c.in_ok-submit_missing.ensures.all c.make_rounds.ensures.leads

pub returns-in_err-keep_all-clause-leads : goal.returns-in_err-keep_all-clause-leads
returns-in_err-keep_all-clause-leads g c =
    let such = IsUnderWay c.args.most c.args.jobs.now (table_of c.args.book.now) in
    let rounds = leads_under c.args.most c.args.jobs.now c.args.book.now c.submit_missing.new.book c.make_rounds.new.book
    c.submit_missing.ensures.leads c.in_ok-submit_missing.ensures.all c.make_rounds.ensures.leads in
    leads_on such c.args.book.now c.make_rounds.new.book c.keep_all.new.book rounds (subst such (sym c.keep_all.ensures.table) rounds.table)
    (inl c.in_err-keep_all.ensures.unkept) c.keep_all.ensures.crash

pub returns-in_err-told-clause-leads : goal.returns-in_err-told-clause-leads
returns-in_err-told-clause-leads g c =
    let such = IsUnderWay c.args.most c.args.jobs.now (table_of c.args.book.now) in
    let rounds = leads_under c.args.most c.args.jobs.now c.args.book.now c.submit_missing.new.book c.make_rounds.new.book
    c.submit_missing.ensures.leads c.in_ok-submit_missing.ensures.all c.make_rounds.ensures.leads in
    leads_on such c.args.book.now c.make_rounds.new.book c.keep_all.new.book rounds (subst such (sym c.keep_all.ensures.table) rounds.table)
    (inr c.in_ok-keep_all.ensures.last) c.keep_all.ensures.crash

pub returns-clause-leads : goal.returns-clause-leads
returns-clause-leads g c =
    let such = IsUnderWay c.args.most c.args.jobs.now (table_of c.args.book.now) in
    let rounds = leads_under c.args.most c.args.jobs.now c.args.book.now c.submit_missing.new.book c.make_rounds.new.book
    c.submit_missing.ensures.leads c.in_ok-submit_missing.ensures.all c.make_rounds.ensures.leads in
    leads_on such c.args.book.now c.make_rounds.new.book c.keep_all.new.book rounds (subst such (sym c.keep_all.ensures.table) rounds.table)
    (inr c.in_ok-keep_all.ensures.last) c.keep_all.ensures.crash

pub returns-clause-ended : goal.returns-clause-ended
returns-clause-ended g c =
    let jobs = c.args.jobs.now in
    let t = table_of c.args.book.now in
    subst (λ (u : List JobParts). HaveEnded c.args.most jobs t u) (sym c.keep_all.ensures.table)
    (all_ended c.args.most jobs t (table_of c.submit_missing.new.book) (table_of c.make_rounds.new.book) c.in_ok-submit_missing.ensures.all
    c.make_rounds.ensures.leads.table c.in_ok-make_rounds.ensures.ended)

pub returns-clause-text : goal.returns-clause-text
returns-clause-text g c = c.in_ok-told.ensures ∙ ap (fetched_all c.args.jobs.now) c.table.ensures

pub returns-clause-kept : goal.returns-clause-kept
returns-clause-kept g c = c.in_ok-keep_all.ensures.kept

pub returns-in_err-submit_missing-clause-comes : goal.returns-in_err-submit_missing-clause-comes
returns-in_err-submit_missing-clause-comes g c =
    let js = table_of c.submit_missing.new.book in
    err_comes c.from_residual.result c.in_err-submit_missing.field-0.0 (ComesWith c.args.most js) c.from_residual.ensures.1
    (comes_anyhow c.args.most js c.in_err-submit_missing.field-0.0 c.in_err-submit_missing.ensures.comes)

pub returns-in_err-make_rounds-clause-comes : goal.returns-in_err-make_rounds-clause-comes
returns-in_err-make_rounds-clause-comes g c =
    let fault = c.in_err-make_rounds.field-0.0 in
    err_comes c.from_residual-in_err-make_rounds.result fault (ComesWith c.args.most (table_of c.make_rounds.new.book)) c.from_residual-in_err-make_rounds.ensures.1
    c.in_err-make_rounds.ensures.comes

pub returns-in_err-keep_all-clause-comes : goal.returns-in_err-keep_all-clause-comes
returns-in_err-keep_all-clause-comes g c =
    let js = table_of c.keep_all.new.book in
    err_comes c.from_residual-in_err-keep_all.result c.in_err-keep_all.field-0.0 (ComesWith c.args.most js) c.from_residual-in_err-keep_all.ensures.1
    (comes_anyhow c.args.most js c.in_err-keep_all.field-0.0 (of_keep c.in_err-keep_all.field-0.0 c.in_err-keep_all.ensures.others))

pub returns-in_err-make_rounds-clause-broken : goal.returns-in_err-make_rounds-clause-broken
returns-in_err-make_rounds-clause-broken g c = λ is. err_comes c.from_residual-in_err-make_rounds.result c.in_err-make_rounds.field-0.0 ComesOverBroken
    c.from_residual-in_err-make_rounds.ensures.1 (c.in_err-make_rounds.ensures.broken (c.in_ok-submit_missing.ensures.still is))

pub returns-in_err-keep_all-clause-broken : goal.returns-in_err-keep_all-clause-broken
returns-in_err-keep_all-clause-broken g c = λ is. err_comes c.from_residual-in_err-keep_all.result c.in_err-keep_all.field-0.0 ComesOverBroken
    c.from_residual-in_err-keep_all.ensures.1 (told_broken c.in_err-keep_all.field-0.0
    (c.in_err-keep_all.ensures.broken.1 (c.in_ok-make_rounds.ensures.still (c.in_ok-submit_missing.ensures.still is))))

pub returns-clause-unbroken : goal.returns-clause-unbroken
returns-clause-unbroken g c = not_true (is_broken c.args.book.now)
    (λ is. (let bad = c.in_ok-keep_all.ensures.broken.1 (c.in_ok-make_rounds.ensures.still (c.in_ok-submit_missing.ensures.still is)) in cc))

pub returns-in_err-submit_missing-clause-few_calls : goal.returns-in_err-submit_missing-clause-few_calls
returns-in_err-submit_missing-clause-few_calls g c = few_submits c.args.jobs.now c.args.every c.args.book.now c.submit_missing.new.book c.submit_missing.ensures.few_calls

pub returns-in_err-make_rounds-clause-few_calls : goal.returns-in_err-make_rounds-clause-few_calls
returns-in_err-make_rounds-clause-few_calls g c = few_rounds c.args.jobs.now c.args.every c.args.book.now c.submit_missing.new.book c.in_ok-submit_missing.ensures.all c.in_ok-submit_missing.ensures.come
    c.make_rounds.new.book (ways_long c.args.most (table_of c.submit_missing.new.book) (table_of c.make_rounds.new.book) c.make_rounds.ensures.leads.table) c.make_rounds.ensures.few_calls

pub returns-in_err-keep_all-clause-few_calls : goal.returns-in_err-keep_all-clause-few_calls
returns-in_err-keep_all-clause-few_calls g c = few_kept c.args.jobs.now c.args.every c.args.book.now c.submit_missing.new.book c.in_ok-submit_missing.ensures.all c.in_ok-submit_missing.ensures.come
    c.make_rounds.new.book c.keep_all.new.book (ways_long c.args.most (table_of c.submit_missing.new.book) (table_of c.make_rounds.new.book) c.make_rounds.ensures.leads.table)
    c.make_rounds.ensures.few_calls c.keep_all.ensures.table c.keep_all.ensures.calls

pub returns-in_err-told-clause-few_calls : goal.returns-in_err-told-clause-few_calls
returns-in_err-told-clause-few_calls g c = few_kept c.args.jobs.now c.args.every c.args.book.now c.submit_missing.new.book c.in_ok-submit_missing.ensures.all c.in_ok-submit_missing.ensures.come
    c.make_rounds.new.book c.keep_all.new.book (ways_long c.args.most (table_of c.submit_missing.new.book) (table_of c.make_rounds.new.book) c.make_rounds.ensures.leads.table)
    c.make_rounds.ensures.few_calls c.keep_all.ensures.table c.keep_all.ensures.calls

pub returns-clause-few_calls : goal.returns-clause-few_calls
returns-clause-few_calls g c = few_kept c.args.jobs.now c.args.every c.args.book.now c.submit_missing.new.book c.in_ok-submit_missing.ensures.all c.in_ok-submit_missing.ensures.come
    c.make_rounds.new.book c.keep_all.new.book (ways_long c.args.most (table_of c.submit_missing.new.book) (table_of c.make_rounds.new.book) c.make_rounds.ensures.leads.table)
    c.make_rounds.ensures.few_calls c.keep_all.ensures.table c.keep_all.ensures.calls

pub returns-in_err-submit_missing-clause-few_unkept : goal.returns-in_err-submit_missing-clause-few_unkept
returns-in_err-submit_missing-clause-few_unkept g c = λ all. let few = c.submit_missing.ensures.few_unkept all in omega (arith, few)

pub returns-in_err-make_rounds-clause-few_unkept : goal.returns-in_err-make_rounds-clause-few_unkept
returns-in_err-make_rounds-clause-few_unkept g c = λ all. let few = c.make_rounds.ensures.few_unkept (c.in_ok-submit_missing.ensures.kept all) in omega (arith, few)

pub returns-in_err-keep_all-clause-few_unkept : goal.returns-in_err-keep_all-clause-few_unkept
returns-in_err-keep_all-clause-few_unkept g c = λ all.
    let few = c.make_rounds.ensures.few_unkept (c.in_ok-submit_missing.ensures.kept all) in
    let fewer = c.keep_all.ensures.fewer in
    omega (arith, few, fewer)

pub returns-in_err-told-clause-few_unkept : goal.returns-in_err-told-clause-few_unkept
returns-in_err-told-clause-few_unkept g c = λ all.
    let few = c.make_rounds.ensures.few_unkept (c.in_ok-submit_missing.ensures.kept all) in
    let fewer = c.keep_all.ensures.fewer in
    omega (arith, few, fewer)

pub returns-clause-few_unkept : goal.returns-clause-few_unkept
returns-clause-few_unkept g c = λ all.
    let few = c.make_rounds.ensures.few_unkept (c.in_ok-submit_missing.ensures.kept all) in
    let fewer = c.keep_all.ensures.fewer in
    omega (arith, few, fewer)
