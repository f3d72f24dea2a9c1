use Rattle.std.proofs.Common.{◌==◌, ℕ, List, length, sym, ap, subst, ◌∙◌}
use Rattle.std.proofs.lemmas.Bool.{false≢true}
use Rattle.std.proofs.lemmas.Result.{err_from_is_err_and}
use Rattle.ic_jobs.specs.Job.{JobParts}
use Rattle.ic_codec.specs.Tables.{IsFormOf}
use Rattle.ic_codec.proofs.JobLemmas.{is_form, no_form, neither_form}
use Rattle.ic_codec.proofs.TableReading.{none_count, none_jobs, none_table, none_longer, table_read}
use Rattle.ic_codec.proofs.tables.decode.Goals as goal

pub returns-in_err-form-clause-refused : goal.returns-in_err-form-clause-refused
returns-in_err-form-clause-refused c =
    let e = err_from_is_err_and c.from_residual.result c.from_residual.ensures.1 in
    rw (e.1, e.2) (λ same t is. neither_form c.args.bytes.now t (c.in_err-form.ensures.no_old (cc (same))) (c.in_err-form.ensures.no_new (cc (same))))

pub returns-in_err-count-clause-refused : goal.returns-in_err-count-clause-refused
returns-in_err-count-clause-refused c =
    let e = err_from_is_err_and c.from_residual-in_err-count.result c.from_residual-in_err-count.ensures.1 in
    rw (e.1, e.2) (λ same t is. no_form c.in_ok-form.form c.args.bytes.now c.in_ok-form.rest.now t is c.in_ok-form.ensures.read
    (none_count c.in_ok-form.form c.args.bytes.now c.in_ok-form.rest.now c.in_ok-form.ensures.read c.in_err-count.ensures.refused.1 t))

pub returns-in_err-jobs-clause-refused : goal.returns-in_err-jobs-clause-refused
returns-in_err-jobs-clause-refused c =
    let e = err_from_is_err_and c.from_residual-in_err-jobs.result c.from_residual-in_err-jobs.ensures.1 in
    rw (e.1, e.2) (λ same t is. no_form c.in_ok-form.form c.args.bytes.now c.in_ok-form.rest.now t is c.in_ok-form.ensures.read
    (none_jobs c.in_ok-form.form c.in_ok-count.count c.args.bytes.now c.in_ok-form.rest.now c.in_ok-count.rest.now c.in_ok-form.ensures.read c.in_ok-count.ensures.read
    (c.in_err-jobs.ensures.refused (cc (same))) t))

pub returns-in_err-table-clause-refused : goal.returns-in_err-table-clause-refused
returns-in_err-table-clause-refused c =
    let e = err_from_is_err_and c.from_residual-in_err-table.result c.from_residual-in_err-table.ensures.1 in
    rw (e.1, e.2) (λ same t is. no_form c.in_ok-form.form c.args.bytes.now c.in_ok-form.rest.now t is c.in_ok-form.ensures.read
    (none_table c.in_ok-form.form c.in_ok-count.count c.args.bytes.now c.in_ok-form.rest.now c.in_ok-count.rest.now c.in_ok-jobs.jobs.items c.in_ok-jobs.rest.now
    c.in_ok-form.ensures.read c.in_ok-count.ensures.read c.in_ok-jobs.ensures.read (c.in_err-table.ensures.refused (cc (same))) t))

pub returns-clause-refused : goal.returns-clause-refused
returns-clause-refused c =
    λ same t is. no_form c.in_ok-form.form c.args.bytes.now c.in_ok-form.rest.now t is c.in_ok-form.ensures.read
    (none_longer c.in_ok-form.form c.in_ok-count.count c.args.bytes.now c.in_ok-form.rest.now c.in_ok-count.rest.now c.in_ok-jobs.jobs.items c.in_ok-jobs.rest.now
    c.in_ok-form.ensures.read c.in_ok-count.ensures.read c.in_ok-jobs.ensures.read
    (λ ended. false≢true (sym c.if-is_empty.false ∙ c.is_empty.ensures ∙ ap (λ (l : List ℕ). length l == 0) ended)) t)

pub returns-then-is_empty-clause-table : goal.returns-then-is_empty-clause-table
returns-then-is_empty-clause-table c =
    subst (λ (t : List JobParts). IsFormOf t c.args.bytes.now) (sym c.in_ok-table.ensures.table)
    (is_form c.in_ok-form.form c.in_ok-jobs.jobs.items c.args.bytes.now c.in_ok-jobs.ensures.read.each
    (table_read c.in_ok-form.form c.in_ok-count.count c.args.bytes.now c.in_ok-form.rest.now c.in_ok-count.rest.now c.in_ok-jobs.jobs.items c.in_ok-jobs.rest.now
    c.in_ok-form.ensures.read c.in_ok-count.ensures.read c.in_ok-jobs.ensures.read (sym c.is_empty.ensures ∙ c.if-is_empty.true)))
