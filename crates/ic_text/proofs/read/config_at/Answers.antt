use Rattle.ic_text.proofs.read.config_at.Goals as goal

pub returns-in-Err-clause-sense : goal.returns-in-Err-clause-sense
returns-in-Err-clause-sense c = λ p spells. rw c.in_text.ensures.fault (c.in-Err.ensures.sense p spells)
