use Rattle.std.proofs.Common.{⊎_elim, inl, inr, arith}
use Rattle.std.proofs.lemmas.Bool.{cases_lt}
use Rattle.ic_keeping.proofs.laws.a_run_goes_on_within_its_bounds.Goals as goal

pub returns-clause-within : goal.returns-clause-within
returns-clause-within c = λ bounds k run on any.
    let low = on.within any in
    ⊎_elim
    (λ past. inr (omega (arith, past, low, on.later)))
    (λ few. inl few)
    (cases_lt bounds.steps run.state.interactions)

pub returns-clause-millis : goal.returns-clause-millis
returns-clause-millis c = λ bounds k run on. on.millis

pub returns-clause-unstuck : goal.returns-clause-unstuck
returns-clause-unstuck c = λ bounds k run on. on.unstuck
