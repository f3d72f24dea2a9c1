use Rattle.ic_check.proofs.Written.{grows_more, grows_none}
use Rattle.ic_check.proofs.writing.write_findings.Goals as goal

pub loop-finding-init : goal.loop-finding-init
loop-finding-init g c = record { grows = grows_none (g.W.Write.contents c.args.writer.now) }

pub loop-finding-preserved : goal.loop-finding-preserved
loop-finding-preserved g c = record {
  grows = grows_more (g.W.Write.contents c.args.writer.now) (g.W.Write.contents c.loop-finding.writer) (g.W.Write.contents c.write_finding.new.writer)
      c.loop-finding.invariant.grows c.in_ok-write_finding.ensures.grows;
}

pub returns-in_err-write_finding-clause-grows : goal.returns-in_err-write_finding-clause-grows
returns-in_err-write_finding-clause-grows g c =
    grows_more (g.W.Write.contents c.args.writer.now) (g.W.Write.contents c.loop-finding.writer) (g.W.Write.contents c.write_finding.new.writer)
    c.loop-finding.invariant.grows c.in_err-write_finding.ensures.grows
