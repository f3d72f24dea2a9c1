use Rattle.ic_check.proofs.Growth.{makings_end, makings_next}
use Rattle.ic_check.proofs.reach.makings_of.Goals as goal

pub loop-rule-init : goal.loop-rule-init
loop-rule-init c = record { so_far = λ more all. rw c.new-makings.ensures.items all }

pub loop-rule-preserved : goal.loop-rule-preserved
loop-rule-preserved c = record {
  so_far = makings_next c.args.rules.now c.loop-rule.rule-index c.rule-item.result c.loop-rule.makings.items c.push.new.self.items c.in_ok-making_of.field-0
      c.loop-rule-test.true c.rule-item.is c.in_ok-making_of.ensures c.in_ok-push.ensures.items c.loop-rule.invariant.so_far;
}

pub returns : goal.returns
returns c = makings_end c.args.rules.now c.loop-rule.rule-index c.loop-rule.makings.items c.loop-rule-test.false c.loop-rule.invariant.so_far
