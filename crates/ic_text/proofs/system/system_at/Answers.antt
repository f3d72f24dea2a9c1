use Rattle.ic_text.proofs.system.system_at.Goals as goal

pub returns-in-Err-clause-sense : goal.returns-in-Err-clause-sense
returns-in-Err-clause-sense c = λ s spells. rw c.in_text.ensures.fault (c.in-Err.ensures.sense s spells)
