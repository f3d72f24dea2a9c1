use Rattle.std.proofs.Common.{◌≡◌, ℕ, ◌==◌, Some, cond, ap, ◌∙◌, arith, rules}
use Rattle.std.specs.Ordering.{nat_cmp, is_eq}
use Rattle.std.specs.BTreeMap.{get}
use Rattle.std.proofs.lemmas.Bool.Decides.{nat_tests}
use Rattle.ic_names.proofs.Numbers.{on_err}
use Rattle.ic_names.proofs.table.set_other.Goals as goal

-- a map's test of a name is equality
is_same : (a b : ℕ) → is_eq (nat_cmp a b) ≡ (a == b)
is_same a b = grind (arith, nat_tests)

pub returns-in_err-insert-clause-refused : goal.returns-in_err-insert-clause-refused
returns-in_err-insert-clause-refused c =
    let kept : (x : ℕ) → get nat_cmp c.insert.new.self x ≡ get nat_cmp c.args.others.now x = λ x. search (rules, c.in_err-insert.ensures.err) in
    on_err c.from_residual.result kept

pub returns-clause-set : goal.returns-clause-set
returns-clause-set c = λ x.
    c.in_ok-insert.ensures.updates.0 x ∙ ap (λ b. cond b (Some c.args.number) (get nat_cmp c.args.others.now x)) (is_same c.args.name x)
