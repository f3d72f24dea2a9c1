use Rattle.std.proofs.Common.{◌≡◌, ◌+◌, ◌∷◌, ◌++◌, ℕ, Bool, Option, None, Some, cond, sym, ap, ◌∙◌, subst}
use Rattle.std.specs.Prelude.{nat_eq, sum_by, IfSome}
use Rattle.std.specs.Map.{lookup}
use Rattle.std.specs.Option.{option_to_list}
use Rattle.std.specs.Ordering.{nat_cmp, is_eq}
use Rattle.ic_flat_round.specs.inner.Bindings.{Bindings}
use Rattle.ic_flat_round.proofs.BoundEntries.{is_same, same_test, next_apart, next_updates, next_sums}
use Rattle.ic_flat_round.proofs.bound.bind.Goals as goal
use Rattle.ic_flat_round.proofs.bound.bind.Goals.{In_ok-insert-in-Some}

-- what was bound
before : (c : In_ok-insert-in-Some) → c.args.bound.now.entries ≡ (c.in-Some.other, c.in-Some.there) ∷ c.bound.inside.others.entries
before c = sym (ap (λ (b : Bindings). b.entries) c.bound.view_is) ∙ ap (λ (l : Option (ℕ × ℕ)). option_to_list l ++ c.bound.inside.others.entries) c.in-Some.is

apart : (c : In_ok-insert-in-Some) → lookup (nat_eq c.in-Some.other) c.bound.inside.others.entries ≡ None
apart c = subst (λ (l : Option (ℕ × ℕ)). IfSome l (λ e. lookup (nat_eq e.0) c.bound.inside.others.entries ≡ None)) c.in-Some.is c.bound.invariant

fresh : (c : In_ok-insert-in-Some) → lookup (nat_eq c.args.name) ((c.in-Some.other, c.in-Some.there) ∷ c.bound.inside.others.entries) ≡ None
fresh c = ap (lookup (nat_eq c.args.name)) (sym (before c)) ∙ c.requires

updates : (c : In_ok-insert-in-Some) → (y : ℕ)
    → lookup (nat_eq y) c.insert.new.self.entries ≡ cond (nat_eq c.in-Some.other y) (Some c.in-Some.there) (lookup (nat_eq y) c.bound.inside.others.entries)
updates c y =
    let old = c.bound.inside.others.entries in
    ap (λ (t : ℕ → Bool). lookup t c.insert.new.self.entries) (sym (same_test y)) ∙ c.in_ok-insert-in-Some.ensures.updates.0 y
    ∙ ap (λ b. cond b (Some c.in-Some.there) (lookup (λ k. is_eq (nat_cmp y k)) old)) (is_same c.in-Some.other y)
    ∙ ap (λ (t : ℕ → Bool). cond (nat_eq c.in-Some.other y) (Some c.in-Some.there) (lookup t old)) (same_test y)

pub invariant_of-bound-in-Some : goal.invariant_of-bound-in-Some
invariant_of-bound-in-Some c =
    next_apart c.in-Some.other c.args.name c.in-Some.there c.args.place c.bound.inside.others.entries c.insert.new.self.entries (apart (goal.at.invariant_of-bound-in-Some c).In_ok-insert-in-Some) (fresh (goal.at.invariant_of-bound-in-Some c).In_ok-insert-in-Some) (updates (goal.at.invariant_of-bound-in-Some c).In_ok-insert-in-Some)
    c.in_ok-insert-in-Some.ensures.entries

pub returns-in_ok-insert-in-Some-clause-updates : goal.returns-in_ok-insert-in-Some-clause-updates
returns-in_ok-insert-in-Some-clause-updates c = λ y.
    next_updates c.in-Some.other c.args.name c.in-Some.there c.args.place c.bound.inside.others.entries c.insert.new.self.entries (apart (goal.at.returns-in_ok-insert-in-Some-clause-updates c).In_ok-insert-in-Some) (fresh (goal.at.returns-in_ok-insert-in-Some-clause-updates c).In_ok-insert-in-Some) (updates (goal.at.returns-in_ok-insert-in-Some-clause-updates c).In_ok-insert-in-Some)
    c.in_ok-insert-in-Some.ensures.entries y
    ∙ ap (λ l. cond (nat_eq c.args.name y) (Some c.args.place) (lookup (nat_eq y) l)) (sym (before (goal.at.returns-in_ok-insert-in-Some-clause-updates c).In_ok-insert-in-Some))

pub returns-in_ok-insert-in-Some-clause-sums : goal.returns-in_ok-insert-in-Some-clause-sums
returns-in_ok-insert-in-Some-clause-sums c = λ f.
    next_sums c.in-Some.other c.args.name c.in-Some.there c.args.place c.bound.inside.others.entries c.insert.new.self.entries (apart (goal.at.returns-in_ok-insert-in-Some-clause-sums c).In_ok-insert-in-Some) (fresh (goal.at.returns-in_ok-insert-in-Some-clause-sums c).In_ok-insert-in-Some) (updates (goal.at.returns-in_ok-insert-in-Some-clause-sums c).In_ok-insert-in-Some)
    c.in_ok-insert-in-Some.ensures.entries f
    ∙ ap (λ l. sum_by (λ e. f e.1) l + f c.args.place) (sym (before (goal.at.returns-in_ok-insert-in-Some-clause-sums c).In_ok-insert-in-Some))
