use Rattle.std.proofs.Common.{◌∙◌, inl, inr}
use Rattle.ic_keeping.proofs.laws.a_life_keeps_what_it_tells.Goals as goal

pub returns-clause-rounds : goal.returns-clause-rounds
returns-clause-rounds g c = λ s bounds most asked from run n made has by low either.
    let same = has.has_run.between made by low either in
    let told = has.has_run.by_rounds made by in
    (same, has.kept (inr (told.0, same ∙ told.1)))

pub returns-clause-any_order : goal.returns-clause-any_order
returns-clause-any_order g c = λ s bounds most asked from run n has any. has.kept (inl any)

pub returns-clause-between : goal.returns-clause-between
returns-clause-between g c = λ s bounds most asked k run made has by low either.
    let told = has.by_rounds made by in
    inr (told.0, has.between made by low either ∙ told.1)
