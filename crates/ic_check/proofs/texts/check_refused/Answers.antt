use Rattle.ic_check.proofs.Written.{grows_more}
use Rattle.ic_check.proofs.texts.check_refused.Goals as goal

pub returns-clause-grows : goal.returns-clause-grows
returns-clause-grows g c =
    grows_more (g.W.Write.contents c.args.writer.now) (g.W.Write.contents c.write_findings.new.writer) (g.W.Write.contents c.flush.new.writer) c.in_ok-write_findings.ensures.grows c.flush.ensures.grows
