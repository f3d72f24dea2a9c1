use Rattle.ic_rules.proofs.Refused.{refused, taken_rules}
use Rattle.ic_rules.proofs.laws.refusals_come_in_order.Goals as goal

pub returns-clause-refused : goal.returns-clause-refused
returns-clause-refused c = refused

pub returns-clause-taken : goal.returns-clause-taken
returns-clause-taken c = taken_rules
