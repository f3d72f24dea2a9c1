-- The number of the plan of a pair.
use Rattle.std.proofs.Common.{◌≡◌, ℕ, ◌+◌, Option, None, Some, IfSome}
use Rattle.ic_machine.specs.declared.equation.Equation.{Equation}
use Rattle.ic_machine.specs.Plan.{Plans, ArePlans, number_of}
use Rattle.ic_machine.specs.inner.Pairs.{HasNumber}
use Rattle.ic_machine.specs.lemmas.PairLaws.{numbered_pair}

-- the number of a pair of agents is that of their plan
pub found_number : (p : Plans) (e : Equation) (o : Option ℕ) (a b : ℕ) → ArePlans p → e.left.tag ≡ a + 1 → e.right.tag ≡ b + 1
    → number_of p a b ≡ o → IfSome o (HasNumber p e)
found_number p e None a b sound la lb is = tt
found_number p e (Some i) a b sound la lb is =
    let known = numbered_pair p a b i sound is in
    record {
      left = a;
      right = b;
      left_tag = la;
      right_tag = lb;
      left_known = known.0;
      right_known = known.1;
      number = is;
      there = known.2;
      sound = sound;
    }
