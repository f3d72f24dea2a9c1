use Rattle.ic_check.proofs.Written.{grows_more}
use Rattle.ic_check.proofs.texts.check_given.Goals as goal

pub returns-clause-grows : goal.returns-clause-grows
returns-clause-grows g c =
    grows_more (g.W.Write.contents c.args.writer.now) (g.W.Write.contents c.check_bytes.new.writer) (g.W.Write.contents c.flush.new.writer) c.in_ok-is_faulty.ensures.grows c.in_ok-flush.ensures.grows

pub returns-in_err-flush-clause-grows : goal.returns-in_err-flush-clause-grows
returns-in_err-flush-clause-grows g c =
    grows_more (g.W.Write.contents c.args.writer.now) (g.W.Write.contents c.check_bytes.new.writer) (g.W.Write.contents c.flush.new.writer) c.in_ok-is_faulty.ensures.grows c.in_err-flush.ensures.grows
