use Rattle.ic_jobs.proofs.TurnLemmas.{due_awaited, awaited_once, awaited_flies, flies_awaited}
use Rattle.ic_jobs.proofs.laws.what_is_due_is_awaited.Goals as goal

pub returns-clause-due : goal.returns-clause-due
returns-clause-due c = due_awaited

pub returns-clause-one : goal.returns-clause-one
returns-clause-one c = awaited_once

pub returns-clause-running : goal.returns-clause-running
returns-clause-running c = λ t name r a n is. (awaited_flies t name r a n, flies_awaited t name r a n is)
