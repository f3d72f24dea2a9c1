use Rattle.ic_exact.proofs.FaultLemmas.{taken_so, refused_so}
use Rattle.ic_exact.proofs.firsts.rules_are_refused_exactly_so.Goals as goal

pub returns-clause-taken : goal.returns-clause-taken
returns-clause-taken c = λ ss rs set. (c.refusals_come_in_order.ensures.taken ss rs set, taken_so ss rs set)

pub returns-clause-refused : goal.returns-clause-refused
returns-clause-refused c = λ ss rs fault. (c.refusals_come_in_order.ensures.refused ss rs fault, refused_so ss rs fault)
