use Rattle.ic_attend.specs.Runners.{EndHolds}
use Rattle.ic_attend.proofs.Exact.{one_more}
use Rattle.ic_attend.proofs.comparing.ends_hold.Goals as goal

pub loop-end-preserved : goal.loop-end-preserved
loop-end-preserved c =
    one_more (EndHolds c.args.turns c.args.jobs.now c.args.entries.now) c.args.ends.now c.loop-end.end-index _ c.loop-end-test.true c.loop-end.invariant (c.end_holds.ensures.0 c.if-not-end_holds.false)
