use Rattle.std.proofs.Common.{◌≡◌, ◌∙◌, false, sym}
use Rattle.ic_batch.specs.Way.{goes_on}
use Rattle.ic_batch.proofs.LoopLemmas.{all_more, all_over, item_at}
use Rattle.ic_batch.proofs.running.place_from.Goals as goal

pub loop-place-init : goal.loop-place-init
loop-place-init c = λ all. all

pub returns-then-goes_on-clause-goes : goal.returns-then-goes_on-clause-goes
returns-then-goes_on-clause-goes c = (
  c.index-jobs-place.result,
  item_at c.args.jobs.now c.loop-place.place c.index-jobs-place.result c.loop-place-test.true c.index-jobs-place.is,
  sym c.goes_on.ensures ∙ c.if-goes_on.true,
)

pub loop-place-preserved : goal.loop-place-preserved
loop-place-preserved c = all_more c.args.jobs.now c.loop-place.place c.index-jobs-place.result c.loop-place-test.true c.index-jobs-place.is
    (λ job. goes_on c.args.most job ≡ false) (sym c.goes_on.ensures ∙ c.if-goes_on.false) c.loop-place.invariant

pub returns-clause-none : goal.returns-clause-none
returns-clause-none c = all_over (λ job. goes_on c.args.most job ≡ false) c.args.jobs.now c.loop-place.place c.loop-place-test.false c.loop-place.invariant
