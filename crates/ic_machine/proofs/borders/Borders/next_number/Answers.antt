use Rattle.std.proofs.Common.{◌≡◌, ◌+◌, ◌*◌, ◌≤◌, ◌∷◌, [], ℕ, List, Result, Ok, Err, refl, sym, ap, subst, ◌∙◌}
use Rattle.std.specs.Prelude.{IfOk, OnOk}
use Rattle.std.proofs.lemmas.List.{append-nil}
use Rattle.ic_machine.specs.Moving.{Ends, times, worth}
use Rattle.ic_machine.specs.inner.Borders.{ends_of}
use Rattle.ic_machine.proofs.Ends.{worth_opened, worth_popped}
use Rattle.ic_machine.proofs.borders.Borders.next_number.Goals as goal

opened_worth : {E : Type 0} (old new : Ends) (r : Result ℕ E) → 1 ≤ old.step → IfOk r (λ cut. cut ≡ old.next)
    → OnOk r (new ≡ record old { next = old.next + old.step })
    → IfOk r (λ cut. (k : ℕ) → worth k new + 2 * times k (cut ∷ []) ≡ worth k old)
opened_worth old new (Ok n) some is after = λ k.
    subst (λ (m : ℕ). worth k new + 2 * times k (m ∷ []) ≡ worth k old) (sym is) (worth_opened k old new after some)
opened_worth old new (Err e) some is after = tt

pub returns-in-Some-clause-worth : goal.returns-in-Some-clause-worth
returns-in-Some-clause-worth c = λ k.
    let new = record c.self.inside { ended = c.pop.new.self } in
    subst (λ (x : Ends). worth k (ends_of new) + 2 * times k (c.in-Some.ended ∷ []) ≡ worth k x) c.self.view_is
    (worth_popped k c.in-Some.ended (ends_of c.self.inside) (ends_of new) refl refl refl c.in-Some.ensures.items)

pub returns-in-None-clause-worth : goal.returns-in-None-clause-worth
returns-in-None-clause-worth c =
    let old : Ends = ends_of (record c.self.inside { ended = c.pop.new.self }) in
    let items : c.pop.new.self.items ≡ c.self.inside.ended.items = sym (append-nil c.pop.new.self.items) ∙ sym c.in-None.ensures.items in
    let same : old ≡ c.args.self.now = ap (λ (l : List ℕ). record (ends_of c.self.inside) { ended = l }) items ∙ c.self.view_is in
    subst (λ (x : Ends). IfOk c.open.result (λ cut. (k : ℕ) → worth k c.open.new.self + 2 * times k (cut ∷ []) ≡ worth k x)) same
    (opened_worth old c.open.new.self c.open.result c.self.invariant.step c.open.ensures.opened c.open.ensures.next)
