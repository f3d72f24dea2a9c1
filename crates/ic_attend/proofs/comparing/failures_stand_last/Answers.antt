use Rattle.std.proofs.Common.{length, refl}
use Rattle.ic_attend.specs.Clients.{FailureStandsLast}
use Rattle.ic_attend.proofs.Exact.{one_more_at}
use Rattle.ic_attend.proofs.comparing.failures_stand_last.Goals as goal

pub loop-who-preserved : goal.loop-who-preserved
loop-who-preserved c =
    one_more_at (FailureStandsLast c.args.entries.now) c.args.runs.now (length c.args.runs.now) c.loop-who.who c.index-runs-who.result refl c.loop-who-test.true c.index-runs-who.is
    c.loop-who.invariant (c.failure_stands_last.ensures.0 c.if-not-failure_stands_last.false)
