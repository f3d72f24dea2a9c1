use Rattle.ic_attend.proofs.PartLemmas.{ends_more}
use Rattle.ic_attend.proofs.threads.+start_runners.Goals as goal

pub returns-clause-may_be : goal.returns-clause-may_be
returns-clause-may_be g t c =
    ends_more c.args.duty.turns c.args.duty.workers c.start_runners-gathered.result.ends.items c.add_end.new.self.ends.items c.await_end.result c.add_end.ensures.ends c.start_runners-gathered.ensures.may_be
    c.await_end.ensures
