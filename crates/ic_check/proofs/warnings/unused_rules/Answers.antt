use Rattle.std.proofs.Common.{◌++◌, ap}
use Rattle.ic_check.specs.Warnings.{unused_rules}
use Rattle.ic_check.specs.inner.Growing.{holds}
use Rattle.ic_check.proofs.Warned.{unused_end, unused_next}
use Rattle.ic_check.proofs.warnings.unused_rules.Goals as goal

pub loop-at-init : goal.loop-at-init
loop-at-init c = record { whole = ap (λ l. l ++ unused_rules (holds c.args.seen.now) 0 c.args.rules.now) c.new-found.ensures.items }

pub loop-at-preserved : goal.loop-at-preserved
loop-at-preserved c = record {
  whole = unused_next (holds c.args.seen.now) c.args.rules.now c.loop-at.at c.index-rules-at.result c.loop-at.found.items c.put_unused.new.out.items _
      c.loop-at-test.true c.index-rules-at.is c.in_ok-put_unused.ensures c.loop-at.invariant.whole;
}

pub returns : goal.returns
returns c = unused_end (holds c.args.seen.now) c.args.rules.now c.loop-at.at c.loop-at.found.items _ c.loop-at-test.false c.loop-at.invariant.whole
