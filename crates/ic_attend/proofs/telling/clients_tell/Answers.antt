use Rattle.std.proofs.Common.{subst}
use Rattle.std.specs.Prelude.{IfSome}
use Rattle.ic_attend.specs.declared.attended.ClientRun.{ClientRun}
use Rattle.ic_attend.specs.Ends.{CommandTells}
use Rattle.ic_attend.proofs.Exact.{one_more}
use Rattle.ic_attend.proofs.telling.clients_tell.Goals as goal

pub loop-run-preserved : goal.loop-run-preserved
loop-run-preserved g c =
    one_more (λ (run : ClientRun). IfSome run.end (CommandTells c.args.book.now)) c.args.runs.now c.loop-run.run-index c.run-item.result c.loop-run-test.true c.loop-run.invariant
    (subst (λ (run : ClientRun). IfSome run.end (CommandTells c.args.book.now)) c.run-item.is (c.client_tells.ensures.0 c.if-not-client_tells.false))
