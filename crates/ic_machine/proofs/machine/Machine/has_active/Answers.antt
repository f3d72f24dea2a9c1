use Rattle.std.proofs.Common.{◌≡◌, ◌<◌, ◌∙◌, ℕ, List, Option, None, Some, Contains, IfSome, is_some, true, length, slice_index_or, ap, subst, sym}
use Rattle.std.specs.Option.{unwrap_or}
use Rattle.std.proofs.lemmas.Option.{unwrap_or-slice_get}
use Rattle.ic_machine.specs.declared.equation.Equation.{Equation}
use Rattle.ic_machine.specs.Plan.{Plans}
use Rattle.ic_machine.specs.Net.{Net, IsActive}
use Rattle.ic_machine.specs.inner.Pairs.{HasNumber}
use Rattle.ic_machine.proofs.Takings.{get_there, numbered_active}
use Rattle.ic_machine.proofs.machine.Machine.has_active.Goals as goal

-- a pair whose number was found
found : (p : Plans) (es : List Equation) (i : ℕ) (d : Equation) (o : Option ℕ) → i < length es
    → IfSome o (HasNumber p (slice_index_or es i d)) → is_some o ≡ true → (e : Equation) × Contains es e × IsActive p e
found p es i d None lt h is = absurd (cc is)
found p es i d (Some n) lt h is =
    let there = get_there es i lt in
    let read : (f : Equation) → slice_index_or es i f ≡ there.0 = λ f.
    sym (unwrap_or-slice_get es i f) ∙ ap (λ (o : Option Equation). unwrap_or o f) there.1 in
    let e : Equation = slice_index_or es i d in
    (e, (i, lt, read e ∙ sym (read d)), numbered_active p e n h)

pub returns-then-is_some-clause-some : goal.returns-then-is_some-clause-some
returns-then-is_some-clause-some c = λ _.
    let same : c.as_slice-pair-items.result.now ≡ c.args.self.now.pending =
    c.as_slice-pair-items.ensures ∙ ap (λ (n : Net). n.pending) c.self.view_is in
    subst (λ (l : List Equation). (e : Equation) × Contains l e × IsActive c.args.program.now e) same
    (found c.args.program.now c.as_slice-pair-items.result.now c.loop-pair.pair-index _ c.number_for.result c.loop-pair-test.true
    c.number_for.ensures.found (sym c.is_some.ensures ∙ c.if-is_some.true))
