use Rattle.ic_disk.proofs.CountLemmas.{stays_at_ok, rises_at_err, ends_at_last}
use Rattle.ic_disk.proofs.laws.failures_rise.Goals as goal

pub returns-clause-stays : goal.returns-clause-stays
returns-clause-stays g c = stays_at_ok c.args.answer.now

pub returns-clause-rises : goal.returns-clause-rises
returns-clause-rises g c = rises_at_err c.args.answer.now

pub returns-clause-ends : goal.returns-clause-ends
returns-clause-ends g c = ends_at_last c.args.answer.now
