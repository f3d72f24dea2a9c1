use Rattle.ic_check.proofs.Written.{grows_either, grows_none}
use Rattle.ic_check.proofs.writing.write_finding.Goals as goal

pub returns-in_err-told-clause-grows : goal.returns-in_err-told-clause-grows
returns-in_err-told-clause-grows g c = grows_none (g.W.Write.contents c.args.writer.now)

pub returns-clause-grows : goal.returns-clause-grows
returns-clause-grows g c =
    grows_either c.write_whole.result (g.W.Write.contents c.args.writer.now) (g.W.Write.contents c.write_whole.new.writer) c.deref.result.now c.write_whole.ensures.written c.write_whole.ensures.cut
