use Rattle.std.proofs.Common.{◌≡◌, ◌∷◌, ◌++◌, ℕ, List, Option, None, cond, sym, ap, ◌∙◌, subst}
use Rattle.std.specs.Prelude.{nat_eq, IfSome}
use Rattle.std.specs.Map.{lookup}
use Rattle.std.specs.Option.{option_to_list}
use Rattle.ic_flat_round.specs.inner.Bindings.{Bindings}
use Rattle.ic_flat_round.proofs.BoundEntries.{other_apart, other_updates}
use Rattle.ic_flat_round.proofs.bound.unbound.Goals as goal
use Rattle.ic_flat_round.proofs.bound.unbound.Goals.{After-taken}

apart : (c : After-taken) → lookup (nat_eq c.in-Some.last) c.bound.inside.others.entries ≡ None
apart c = subst (λ (l : Option (ℕ × ℕ)). IfSome l (λ e. lookup (nat_eq e.0) c.bound.inside.others.entries ≡ None)) c.in-Some.is c.bound.invariant

updates : (c : After-taken) → (y : ℕ)
    → lookup (nat_eq y) c.taken.new.others.entries ≡ cond (nat_eq c.args.name y) None (lookup (nat_eq y) c.bound.inside.others.entries)
updates c = c.taken.ensures.updates

pub invariant_of-bound-in-Some-2 : goal.invariant_of-bound-in-Some-2
invariant_of-bound-in-Some-2 c =
    subst (λ (l : Option (ℕ × ℕ)). IfSome l (λ e. lookup (nat_eq e.0) c.taken.new.others.entries ≡ None)) (sym c.in-Some.is)
    (other_apart c.in-Some.last c.args.name c.in-Some.place c.bound.inside.others.entries c.taken.new.others.entries c.if-last-name.false (updates (goal.at.invariant_of-bound-in-Some-2 c).After-taken) (apart (goal.at.invariant_of-bound-in-Some-2 c).After-taken))

pub returns-in-Some-2-clause-updates : goal.returns-in-Some-2-clause-updates
returns-in-Some-2-clause-updates c = λ y.
    let others = c.bound.inside.others.entries in
    let before : c.args.bound.now.entries ≡ (c.in-Some.last, c.in-Some.place) ∷ others =
    sym (ap (λ (b : Bindings). b.entries) c.bound.view_is) ∙ ap (λ (l : Option (ℕ × ℕ)). option_to_list l ++ others) c.in-Some.is in
    ap (λ (l : Option (ℕ × ℕ)). lookup (nat_eq y) (option_to_list l ++ c.taken.new.others.entries)) c.in-Some.is
    ∙ other_updates c.in-Some.last c.args.name c.in-Some.place others c.taken.new.others.entries c.if-last-name.false (updates (goal.at.returns-in-Some-2-clause-updates c).After-taken) y
    ∙ ap (λ (l : List (ℕ × ℕ)). cond (nat_eq c.args.name y) None (lookup (nat_eq y) l)) (sym before)

pub returns-in-None-clause-updates : goal.returns-in-None-clause-updates
returns-in-None-clause-updates c = λ y.
    let old = c.bound.inside.others.entries in
    let new = c.taken-in-None.new.others.entries in
    let before : c.args.bound.now.entries ≡ old =
    sym (ap (λ (b : Bindings). b.entries) c.bound.view_is) ∙ ap (λ (l : Option (ℕ × ℕ)). option_to_list l ++ old) c.in-None.is in
    ap (λ (l : Option (ℕ × ℕ)). lookup (nat_eq y) (option_to_list l ++ new)) c.in-None.is
    ∙ c.taken-in-None.ensures.updates y
    ∙ ap (λ (l : List (ℕ × ℕ)). cond (nat_eq c.args.name y) None (lookup (nat_eq y) l)) (sym before)
