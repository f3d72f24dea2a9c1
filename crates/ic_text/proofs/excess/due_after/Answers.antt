use Rattle.std.proofs.Common.{◌≡◌, ℕ, zero, suc, ◌+◌, ◌-◌, arith}
use Rattle.ic_text.specs.inner.Counted.{due_after}
use Rattle.ic_text.proofs.excess.due_after.Goals as goal

one_done : (due arity n : ℕ) → n ≡ due - 1 + arity → n ≡ due_after due arity
one_done zero arity n is = omega (arith, is)
one_done (suc due) arity n is = omega (arith, is)

pub returns : goal.returns
returns c = λ low. one_done c.args.due c.args.arity _ (omega (arith, low, c.saturating_sub.ensures, c.saturating_add.ensures))
