use Rattle.std.proofs.Common.{◌≡◌, ◌++◌, ℕ, List, Option, None, sym, ap, ◌∙◌, subst}
use Rattle.std.specs.Prelude.{nat_eq, is_some, IfSome}
use Rattle.std.specs.Map.{lookup}
use Rattle.std.specs.Option.{option_to_list}
use Rattle.ic_flat_round.specs.inner.Bindings.{Bindings}
use Rattle.ic_flat_round.proofs.BoundEntries.{taken_front, other_value}
use Rattle.ic_flat_round.proofs.bound.is_bound.Goals as goal

pub returns-in-Some : goal.returns-in-Some
returns-in-Some c =
    let others = c.bound.inside.others.entries in
    let before = sym (ap (λ (b : Bindings). b.entries) c.bound.view_is) ∙ ap (λ (l : Option (ℕ × ℕ)). option_to_list l ++ others) c.in-Some.is in
    let apart = subst (λ (l : Option (ℕ × ℕ)). IfSome l (λ e. lookup (nat_eq e.0) others ≡ None)) c.in-Some.is c.bound.invariant in
    ap is_some (taken_front c.in-Some.last c.args.name _ others c.if-last-name.true apart).0 ∙ ap (λ (l : List (ℕ × ℕ)). is_some (lookup (nat_eq c.args.name) l)) (sym before)

pub returns-in-Some-2 : goal.returns-in-Some-2
returns-in-Some-2 c =
    let others = c.bound.inside.others.entries in
    let before = sym (ap (λ (b : Bindings). b.entries) c.bound.view_is) ∙ ap (λ (l : Option (ℕ × ℕ)). option_to_list l ++ others) c.in-Some.is in
    c.has.ensures
    ∙ ap is_some (sym (other_value c.in-Some.last c.args.name _ others others c.if-last-name.false))
    ∙ ap (λ (l : List (ℕ × ℕ)). is_some (lookup (nat_eq c.args.name) l)) (sym before)

pub returns-in-None : goal.returns-in-None
returns-in-None c =
    let others = c.bound.inside.others.entries in
    let before = sym (ap (λ (b : Bindings). b.entries) c.bound.view_is) ∙ ap (λ (l : Option (ℕ × ℕ)). option_to_list l ++ others) c.in-None.is in
    c.has-in-None.ensures
    ∙ ap (λ (l : List (ℕ × ℕ)). is_some (lookup (nat_eq c.args.name) l)) (sym before)
