use Rattle.std.proofs.Common.{ℕ, Bool, None, cond, sym, ap, ◌∙◌}
use Rattle.std.specs.Prelude.{nat_eq}
use Rattle.std.specs.Map.{lookup, remove_entry}
use Rattle.std.specs.Ordering.{nat_cmp, is_eq}
use Rattle.ic_flat_round.proofs.BoundEntries.{is_same, same_test}
use Rattle.ic_flat_round.proofs.bound.removed.Goals as goal

pub returns-clause-value : goal.returns-clause-value
returns-clause-value c = c.remove.ensures.value ∙ ap (λ (t : ℕ → Bool). lookup t c.args.others.now.entries) (same_test c.args.name)

pub returns-clause-updates : goal.returns-clause-updates
returns-clause-updates c = λ y.
    let old = c.args.others.now.entries in
    ap (λ (t : ℕ → Bool). lookup t c.remove.new.self.entries) (sym (same_test y)) ∙ c.remove.ensures.updates.0 y
    ∙ ap (λ b. cond b None (lookup (λ k. is_eq (nat_cmp y k)) old)) (is_same c.args.name y)
    ∙ ap (λ (t : ℕ → Bool). cond (nat_eq c.args.name y) None (lookup t old)) (same_test y)

pub returns-clause-entries : goal.returns-clause-entries
returns-clause-entries c = c.remove.ensures.entries ∙ ap (λ (t : ℕ → Bool). remove_entry t c.args.others.now.entries) (same_test c.args.name)
