use Rattle.ic_check.proofs.Written.{grows_none}
use Rattle.ic_check.proofs.texts.check_whole.Goals as goal

pub returns-in_err-findings-clause-grows : goal.returns-in_err-findings-clause-grows
returns-in_err-findings-clause-grows g c = grows_none (g.W.Write.contents c.args.writer.now)
