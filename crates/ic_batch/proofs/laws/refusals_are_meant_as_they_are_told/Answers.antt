use Rattle.ic_batch.proofs.LawLemmas.{is_another, same_there}
use Rattle.ic_batch.proofs.laws.refusals_are_meant_as_they_are_told.Goals as goal

pub returns-clause-syntax : goal.returns-clause-syntax
returns-clause-syntax c jobs command fault is = is

pub returns-clause-why : goal.returns-clause-why
returns-clause-why c jobs command why is = is.1

pub returns-clause-rules : goal.returns-clause-rules
returns-clause-rules c new j = (λ h. h, λ h. h)

pub returns-clause-budget : goal.returns-clause-budget
returns-clause-budget c new j = (λ h. h, λ h. h)

pub returns-clause-start : goal.returns-clause-start
returns-clause-start c new j = (λ h. h, λ h. h)

pub returns-clause-same : goal.returns-clause-same
returns-clause-same c = same_there

pub returns-clause-another : goal.returns-clause-another
returns-clause-another c = is_another

pub returns-clause-room : goal.returns-clause-room
returns-clause-room c jobs t = (λ h. h, λ h. h)
