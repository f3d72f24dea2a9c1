use Rattle.ic_confluence.proofs.FiredToo.{settled_too, fired_too, round_too, rounds_too}
use Rattle.ic_confluence.proofs.laws.same_nets_have_the_same_rounds.Goals as goal

pub returns-clause-settled : goal.returns-clause-settled
returns-clause-settled c = settled_too

pub returns-clause-fired : goal.returns-clause-fired
returns-clause-fired c = fired_too

pub returns-clause-round : goal.returns-clause-round
returns-clause-round c = round_too

pub returns-clause-rounds : goal.returns-clause-rounds
returns-clause-rounds c = rounds_too
