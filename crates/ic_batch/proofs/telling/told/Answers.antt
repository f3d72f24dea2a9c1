use Rattle.std.proofs.Common.{◌∙◌, ◌++◌, List, ap, refl}
use Rattle.ic_jobs.specs.Job.{JobParts}
use Rattle.ic_batch.specs.Way.{fetched}
use Rattle.ic_batch.proofs.LoopLemmas.{text_more, text_over}
use Rattle.ic_batch.proofs.telling.told.Goals as goal

pub loop-new-init : goal.loop-new-init
loop-new-init c = record { same = c.in_ok-copy.ensures; text = rw c.new-text.ensures.items refl }

pub loop-new-preserved : goal.loop-new-preserved
loop-new-preserved c =
    let t = c.args.table.now in
    record {
      same = c.in_ok-put_fetched.ensures.table ∙ c.loop-new.invariant.same;
      text = text_more c.args.jobs.now c.loop-new.new-index c.new-item.result c.loop-new-test.true c.new-item.is (fetched t) c.loop-new.text.items c.put_fetched.new.text.items
          (c.in_ok-put_fetched.ensures.line ∙ ap (λ (u : List JobParts). c.loop-new.text.items ++ fetched u c.new-item.result) c.loop-new.invariant.same) c.loop-new.invariant.text;
    }

pub returns : goal.returns
returns c = text_over (fetched c.args.table.now) c.args.jobs.now c.loop-new.new-index c.loop-new.text.items c.loop-new-test.false c.loop-new.invariant.text
