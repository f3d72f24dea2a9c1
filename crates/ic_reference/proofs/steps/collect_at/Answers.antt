use Rattle.std.proofs.Common.{◌≡◌, Ok, slice_get, option_map, sym, ap, ◌∙◌, subst, append-nil}
use Rattle.std.specs.List.{flat_map}
use Rattle.ic_term.specs.Term.{pair}
use Rattle.ic_term.specs.Tree.{names, pair_names}
use Rattle.ic_term.specs.Configuration.{Configuration}
use Rattle.ic_settle.specs.Settling.{binding}
use Rattle.ic_settle.specs.Sides.{bound_by}
use Rattle.ic_round.specs.Steps.{Collect}
use Rattle.ic_reference.specs.SingleSteps.{others, bound_at}
use Rattle.ic_reference.specs.StepAnswers.{stepped}
use Rattle.ic_reference.proofs.Applying.{pair_at, applies_copy}
use Rattle.ic_settle.specs.lemmas.ChoiceLaws.{binding_binds}
use Rattle.ic_round.specs.lemmas.NameStepLemmas.{in_first}
use Rattle.ic_reference.proofs.StepLemmas.{collected-at, collected-unbound, no_collect}
use Rattle.std.proofs.Common.{None, Some}
use Rattle.ic_term.specs.Tree.{Pair}
use Rattle.ic_settle.specs.declared.applicability.Applicable.{Applicable}
use Rattle.ic_reference.specs.SingleSteps.{collected}
use Rattle.ic_reference.specs.inner.Replacing.{applied_at}
use Rattle.ic_reference.proofs.steps.collect_at.Goals as goal
use Rattle.ic_reference.proofs.steps.collect_at.Goals.{After-applicable_side}

-- the equation at the place, and what it binds
there : (c : After-applicable_side) → slice_get c.args.config.now.equations c.args.place ≡ Some (pair c.in-Some.equation.now)
there c =
    pair_at c.equations.result.now c.args.place c.args.config.now.equations c.in-Some.equation.now c.equations.ensures.equations
    c.in-Some.ensures.lookup.3.0 c.in-Some.ensures.lookup.1

binds : (c : After-applicable_side) → binding (flat_map names c.args.config.now.interface) (pair c.in-Some.equation.now) ≡ option_map (bound_by (pair c.in-Some.equation.now)) c.applicable_side.result
binds c =
    ap (λ ns. binding ns (pair c.in-Some.equation.now)) (sym (append-nil _ ∙ ap (flat_map names) c.interface.ensures.terms)) ∙ c.applicable_side.ensures

-- no step, where it binds nothing
no_step : (c : After-applicable_side) → c.applicable_side.result ≡ None → collected c.args.config.now c.args.place ≡ None
no_step c unbound = collected-unbound c.args.config.now c.args.place (pair c.in-Some.equation.now) (there c) (binds c ∙ ap (option_map (bound_by (pair c.in-Some.equation.now))) unbound)

-- the step, where it binds something
step_made : (c : After-applicable_side) (side : Applicable) (copy d : Configuration) → c.applicable_side.result ≡ Some side → copy ≡ c.args.config.now
    → ((p : Pair) → slice_get copy.equations c.args.place ≡ Some p → d ≡ applied_at copy c.args.place side p)
    → (Ok d ≡ stepped (collected c.args.config.now c.args.place)) × Collect c.args.config.now d c.args.place
step_made c side copy d found copied applied =
    let p = pair c.in-Some.equation.now in
    let step = collected-at c.args.config.now c.args.place p (bound_by p side) (there c) (binds c ∙ ap (option_map (bound_by p)) found) in
    let made = applied p (ap (λ (e : Configuration). slice_get e.equations c.args.place) copied ∙ there c) ∙ ap (λ e. bound_at e c.args.place (bound_by p side)) copied in
    let P : Configuration → Type 0 = λ e. Collect c.args.config.now e c.args.place in
    (ap (λ (e : Configuration). Ok e) made ∙ sym (ap stepped step.0), subst P (sym made) step.1)

pub returns-in-None-clause-exact : goal.returns-in-None-clause-exact
returns-in-None-clause-exact c = sym (ap stepped (no_step (goal.at.returns-in-None-clause-exact c).After-applicable_side c.in-None.is))

pub returns-in-None-clause-not_there : goal.returns-in-None-clause-not_there
returns-in-None-clause-not_there c same =
    no_collect c.args.config.now c.args.place (no_step (goal.at.returns-in-None-clause-not_there c).After-applicable_side c.in-None.is)

pub apply_at-requires : goal.apply_at-requires
apply_at-requires c =
    let a = (goal.at.apply_at-requires c).After-applicable_side in
    let some = c.in-Some-applicable_side in
    let p = pair c.in-Some.equation.now in
    let bound = binding_binds (flat_map names c.args.config.now.interface) p (bound_by p some.applicable) (binds a ∙ ap (option_map (bound_by p)) some.is) in
    applies_copy c.in_ok-copy-in-Some-applicable_side.field-0 c.args.config.now c.args.place some.applicable c.in_ok-copy-in-Some-applicable_side.ensures
    (record { equation = p; there = there a; side = bound.0; outside = in_first _ (flat_map names c.args.config.now.interface) (flat_map pair_names (others c.args.config.now c.args.place)) bound.1 })

pub returns-in_ok-copy-in-Some-applicable_side-clause-exact : goal.returns-in_ok-copy-in-Some-applicable_side-clause-exact
returns-in_ok-copy-in-Some-applicable_side-clause-exact c =
    (step_made (goal.at.returns-in_ok-copy-in-Some-applicable_side-clause-exact c).After-applicable_side c.in-Some-applicable_side.applicable _ _
    c.in-Some-applicable_side.is c.in_ok-copy-in-Some-applicable_side.ensures c.apply_at.ensures.step).0

pub returns-in_ok-copy-in-Some-applicable_side-clause-step : goal.returns-in_ok-copy-in-Some-applicable_side-clause-step
returns-in_ok-copy-in-Some-applicable_side-clause-step c =
    (step_made (goal.at.returns-in_ok-copy-in-Some-applicable_side-clause-step c).After-applicable_side c.in-Some-applicable_side.applicable _ _
    c.in-Some-applicable_side.is c.in_ok-copy-in-Some-applicable_side.ensures c.apply_at.ensures.step).1
