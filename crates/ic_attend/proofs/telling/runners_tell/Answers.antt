use Rattle.ic_attend.specs.Ends.{EndTells}
use Rattle.ic_attend.proofs.Exact.{one_more}
use Rattle.ic_attend.proofs.telling.runners_tell.Goals as goal

pub loop-end-preserved : goal.loop-end-preserved
loop-end-preserved g c =
    one_more (EndTells c.args.workers c.args.book.now) c.args.ends.now c.loop-end.end-index _ c.loop-end-test.true c.loop-end.invariant (c.end_tells.ensures.0 c.if-not-end_tells.false)
