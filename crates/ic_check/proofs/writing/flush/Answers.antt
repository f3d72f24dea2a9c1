use Rattle.ic_check.proofs.Written.{grows_kept}
use Rattle.ic_check.proofs.writing.flush.Goals as goal

pub returns-clause-grows : goal.returns-clause-grows
returns-clause-grows g c = grows_kept (g.W.Write.contents c.args.writer.now) (g.W.Write.contents c.flush.new.self) c.flush.ensures.bytes
