-- What plans need at most.
use Rattle.std.proofs.Common.{◌≡◌, ℕ, zero, suc, List, slice_index_or, ◌+◌, ◌≤◌, Option, None, Some, slice_get, IfSome, IfNone, arith, [], ◌∷◌, ◌++◌}
use Rattle.std.proofs.lemmas.Option.{none-some, same_Some}
use Rattle.ic_machine.specs.Plan.{Planned, Plans, ArePlans, plan_of}
use Rattle.ic_machine.specs.inner.Tables.{NeedAtMost, size_of}
use Rattle.ic_machine.specs.lemmas.PairLaws.{each_added}

-- what is read of a list at a place that it has
pub read_there : (xs : List ℕ) (i v d : ℕ) → slice_get xs i ≡ Some v → slice_index_or xs i d ≡ v
read_there [] i v d h = absurd (none-some v h)
read_there (x ∷ xs) zero v d h = same_Some x v h
read_there (x ∷ xs) (suc i) v d h = read_there xs i v d h

-- what is at most so much is at most more
if_more : (o : Option Planned) (k m n : ℕ) → m ≤ n → IfSome o (λ plan. k + size_of plan ≤ m) → IfSome o (λ plan. k + size_of plan ≤ n)
if_more None k m n le h = tt
if_more (Some plan) k m n le h = let below : k + size_of plan ≤ m = h in omega (arith, le)

module _ (p : Plans) (a b : ℕ) (plan : Planned) (sound : ArePlans p) (none : plan_of p a b ≡ None) where
  -- a plan more, and the greater one of both bounds
  pub need_added : (one other most : Option ℕ) → IfSome one (λ n. NeedAtMost n p)
      → ((left right : ℕ) → slice_get p.arities a ≡ Some left → slice_get p.arities b ≡ Some right
      → IfSome other (λ n. left + right + size_of plan ≡ n))
      → IfSome most (λ n. IfSome one (λ k. k ≤ n) × IfSome other (λ k. k ≤ n)) → IfSome most (λ n. IfNone one ⊥ × IfNone other ⊥)
      → IfSome most (λ n. NeedAtMost n (record { arities = p.arities; pairs = p.pairs ++ (a, b) ∷ []; plans = p.plans ++ plan ∷ [] }))
  need_added one other None all new below both = tt
  need_added None other (Some n) all new below both = absurd both.0
  need_added (Some k) None (Some n) all new below both = absurd both.1
  need_added (Some k) (Some m) (Some n) all new below both =
      let first : k ≤ n = below.0 in
      let second : m ≤ n = below.1 in
      each_added (λ arguments q. arguments + size_of q ≤ n) p a b plan sound none
      (λ x y left right l r. if_more (plan_of p x y) (left + right) k n first (all x y left right l r))
      (λ left right l r. let is : left + right + size_of plan ≡ m = new left right l r in omega (arith, is, second))
