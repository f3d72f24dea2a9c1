-- What is so of each element of a list.
use Rattle.std.proofs.Common.{◌≡◌, ℕ, zero, suc, List, [], ◌∷◌, ◌++◌, Some, unwrap_or, slice_get, subst, ap}
use Rattle.std.specs.List.{AllByRecursion}

module _ {X : Type 0} (P : X → Type 0) where
  pub All-join : (xs ys : List X) → AllByRecursion P xs → AllByRecursion P ys → AllByRecursion P (xs ++ ys)
  All-join [] ys first second = second
  All-join (x ∷ xs) ys first second = (first.0, All-join xs ys first.1 second)

  pub All-split : (xs ys : List X) → AllByRecursion P (xs ++ ys) → AllByRecursion P xs × AllByRecursion P ys
  All-split [] ys all = (tt, all)
  All-split (x ∷ xs) ys all = let rest = All-split xs ys all.1 in ((all.0, rest.0), rest.1)

  pub All-at : (xs : List X) (n : ℕ) (x : X) → AllByRecursion P xs → slice_get xs n ≡ Some x → P x
  All-at [] n x all there = cc
  All-at (y ∷ ys) zero x all there = subst P (ap (λ o. unwrap_or o y) there) all.0
  All-at (y ∷ ys) (suc n) x all there = All-at ys n x all.1 there
