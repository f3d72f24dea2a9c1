use Rattle.std.proofs.Common.{◌∙◌, List, ℕ, ap, length, subst}
use Rattle.ic_in_place.specs.declared.running.Bounds.{Bounds}
use Rattle.ic_in_place.specs.declared.running.End.{End}
use Rattle.ic_in_place.specs.Counting.{AreCounts}
use Rattle.ic_state.specs.State.{kept_by}
use Rattle.ic_keeping.specs.Way.{EndsWithin, IsAnswer}
use Rattle.ic_keeping.proofs.ByRounds.{none_since}
use Rattle.ic_keeping.proofs.laws.what_a_run_by_rounds_tells.Goals as goal

pub returns-clause-net : goal.returns-clause-net
returns-clause-net c = λ s bounds most asked k run made has by either.
    let told = has.by_rounds made by in
    (told.0, told.1, told.2, told.3.net either, told.3.needed)

pub returns-clause-fired : goal.returns-clause-fired
returns-clause-fired c = λ s bounds most asked k run made has by either.
    let told = has.by_rounds made by in
    let fired = told.3.fired in
    let none = none_since fired either in (
      told.0,
      told.1,
      fired.all ∙ ap (λ (l : List ℕ). length l) none,
      subst (λ (l : List ℕ). AreCounts (length s.rules.rules) l run.state.by_rule.items) none fired.counts,
    )

pub returns-clause-within : goal.returns-clause-within
returns-clause-within c = λ s bounds most asked k run made has by.
    let told = has.by_rounds made by in
    let fired = told.3.fired in
    (told.0, told.1, fired.since, fired.all, fired.counts, fired.rest, fired.part)

pub returns-clause-no_fewer : goal.returns-clause-no_fewer
returns-clause-no_fewer c = λ s bounds most asked k run made rounds has by told. has.no_fewer made rounds by told

pub returns-clause-any_order : goal.returns-clause-any_order
returns-clause-any_order c = λ s bounds most asked k run has any. has.any_order any

pub returns-clause-bounded : goal.returns-clause-bounded
returns-clause-bounded c = λ s bounds most asked k run has any. subst (λ (b : Bounds). IsAnswer s b run.end (kept_by run.state)) (has.bounded any) has.answer

pub returns-clause-steps : goal.returns-clause-steps
returns-clause-steps c = λ s bounds most asked k run made has by steps.
    let told = has.by_rounds made by in
    let ended = subst (λ (e : End). EndsWithin s.rules.rules has.within has.answer.answer run.state.interactions e) steps has.answer.ended in
    (told.0, told.1, told.3.all steps, ended.0)
