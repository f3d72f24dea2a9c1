use Rattle.ic_check.proofs.Idle.{none_meet}
use Rattle.ic_check.proofs.laws.where_none_meet_none_ever_do.Goals as goal

pub returns-clause-steps : goal.returns-clause-steps
returns-clause-steps c = none_meet

pub returns-clause-rounds : goal.returns-clause-rounds
returns-clause-rounds c = λ rs a d n i is. none_meet rs a _ d i is (c.rounds_are_steps.ensures.iterate rs n a)
