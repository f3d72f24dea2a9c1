use Rattle.std.proofs.Common.{◌≡◌, None, sym, ap, ◌∙◌, rules}
use Rattle.std.specs.Prelude.{find}
use Rattle.std.proofs.lemmas.Result.{err_from_is_err_and}
use Rattle.ic_dump.specs.Telling.{is_too_long}
use Rattle.ic_dump.specs.Dumping.{chosen, first_missing}
use Rattle.ic_dump.proofs.Dumps.{fault_says, first_long, next_line, no_line}
use Rattle.ic_dump.proofs.dumping.dumped.Goals as goal
use Rattle.ic_dump.proofs.dumping.dumped.Goals.{then-is_chosen+in_ok-put_line, else-is_chosen}

pub returns-in_err-put_line-clause-refused : goal.returns-in_err-put_line-clause-refused
returns-in_err-put_line-clause-refused c =
    let e = err_from_is_err_and c.from_residual.result c.from_residual.ensures.1 in
    let names = c.args.names.now in
    let js = c.jobs-job-items.result.now in
    let none : first_missing names c.args.table.now ≡ None = search rules in
    rw (e.1, e.2) (fault_says names c.args.table.now c.job-item.result c.in_err-put_line.field-0.0 c.in_err-put_line.ensures.long none
    (λ long. ap (λ l. find is_too_long (chosen names l)) (sym c.jobs-job-items.ensures.jobs)
    ∙ first_long names js c.loop-job.job-index c.job-item.result c.loop-job-test.true c.job-item.is c.loop-job.lines.items (sym c.is_chosen.ensures ∙ c.if-is_chosen.true) long c.loop-job.invariant))

pub loop-job-preserved : goal.loop-job-preserved
loop-job-preserved c =
    let names = c.args.names.now in
    let js = c.jobs-job-items.result.now in
    elim c.if-is_chosen.branch [
      | then-is_chosen+in_ok-put_line w ↦
          rw w.lines-is (next_line names js c.loop-job.job-index c.job-item.result c.loop-job-test.true c.job-item.is c.loop-job.lines.items w.put_line.new.lines.items
          (sym c.is_chosen.ensures ∙ w.if-is_chosen.true) w.in_ok-put_line.ensures.short w.in_ok-put_line.ensures.line c.loop-job.invariant)
      | else-is_chosen w ↦
          rw w.lines-is (no_line names js c.loop-job.job-index c.job-item.result c.loop-job-test.true c.job-item.is c.loop-job.lines.items
          (sym c.is_chosen.ensures ∙ w.if-is_chosen.false) c.loop-job.invariant)
    ]
