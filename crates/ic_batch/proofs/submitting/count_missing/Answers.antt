use Rattle.std.proofs.Common.{◌≡◌, ◌∙◌, ◌+◌, List, drop, length, ap, sym, arith}
use Rattle.std.proofs.lemmas.List.{drop_all}
use Rattle.ic_batch.specs.declared.jobs.NewJob.{NewJob}
use Rattle.ic_batch.specs.Way.{missing}
use Rattle.ic_batch.proofs.LoopLemmas.{split_here}
use Rattle.ic_batch.proofs.NewLemmas.{no_missing, one_missing}
use Rattle.ic_batch.proofs.submitting.count_missing.Goals as goal
use Rattle.ic_batch.proofs.submitting.count_missing.Goals.{then-is_missing, else-is_missing}

pub loop-new-preserved : goal.loop-new-preserved
loop-new-preserved c =
    let jobs = c.args.jobs.now in
    let t = c.args.table.now in
    let new = c.new-item.result in
    let i = c.loop-new.new-index in
    let split = split_here jobs i new c.loop-new-test.true c.new-item.is in
    elim c.if-is_missing.branch [
      | then-is_missing w ↦ rw w.count-is (record {
        counted = one_missing t new (drop i jobs) (drop (i + 1) jobs) c.loop-new.count (length (missing t jobs)) split (sym c.is_missing.ensures ∙ w.if-is_missing.true) c.loop-new.invariant.counted;
        few = omega (arith, c.loop-new.invariant.few);
      })
      | else-is_missing w ↦ rw w.count-is (record {
        counted = no_missing t new (drop i jobs) (drop (i + 1) jobs) c.loop-new.count (length (missing t jobs)) split (sym c.is_missing.ensures ∙ w.if-is_missing.false) c.loop-new.invariant.counted;
        few = omega (arith, c.loop-new.invariant.few);
      })
    ]

pub returns : goal.returns
returns c =
    let over : length (missing c.args.table.now (drop c.loop-new.new-index c.args.jobs.now)) ≡ 0 =
    ap (λ (l : List NewJob). length (missing c.args.table.now l)) (drop_all c.loop-new.new-index c.args.jobs.now c.loop-new-test.false) in
    omega (arith, over, c.loop-new.invariant.counted)
