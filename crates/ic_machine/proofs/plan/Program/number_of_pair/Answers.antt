use Rattle.std.proofs.Common.{◌≡◌, ◌+◌, ◌-◌, ℕ, IfSome, map, sym, subst, arith}
use Rattle.ic_machine.specs.Plan.{Plans, planned}
use Rattle.ic_machine.specs.inner.Pairs.{HasNumber}
use Rattle.ic_machine.proofs.Numbers.{found_number}
use Rattle.ic_machine.proofs.plan.Program.number_of_pair.Goals as goal

before : (n : ℕ) → ¬ (n ≡ 0) → n ≡ n - 1 + 1
before n some = omega (arith, some)

pub returns-clause-found : goal.returns-clause-found
returns-clause-found c =
    let a : ℕ = c.args.pair.left.tag - 1 in
    let b : ℕ = c.args.pair.right.tag - 1 in
    subst (λ (p : Plans). IfSome c.get.result (HasNumber p c.args.pair)) c.self.view_is
    (found_number (record { arities = c.self.inside.arities.items; pairs = c.self.inside.pairs; plans = map planned c.self.inside.plans.items })
    c.args.pair c.get.result a b c.self.invariant.plans (before c.args.pair.left.tag c.requires.pair.0) (before c.args.pair.right.tag c.requires.pair.1) (sym c.get.ensures))
