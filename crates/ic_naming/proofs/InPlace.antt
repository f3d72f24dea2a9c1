-- A list of which the first elements were turned into others, in place.
use Rattle.std.proofs.Common.{◌≡◌, ℕ, zero, suc, ◌+◌, ◌<◌, List, [], ◌∷◌, ◌++◌, drop, length, map, take, get_or, slice_set, refl, ap, ◌∙◌, arith}

module _ {X : Type 0} (f : X → X) where
  pub part_length : (i : ℕ) (xs : List X) → length (map f (take i xs) ++ drop i xs) ≡ length xs
  part_length zero xs = refl
  part_length (suc i) [] = refl
  part_length (suc i) (x ∷ xs) = ap suc (part_length i xs)

  -- the next one is still as it was
  pub part_read : (i : ℕ) (xs : List X) (d : X) → get_or (map f (take i xs) ++ drop i xs) i d ≡ get_or xs i d
  part_read zero xs d = refl
  part_read (suc i) [] d = refl
  part_read (suc i) (x ∷ xs) d = part_read i xs d

  -- it is turned, too
  pub part_set : (i : ℕ) (xs : List X) (y d : X) → i < length xs → y ≡ f (get_or xs i d)
      → slice_set (map f (take i xs) ++ drop i xs) i y ≡ map f (take (suc i) xs) ++ drop (suc i) xs
  part_set zero [] y d lt is = absurd (omega arith)
  part_set (suc i) [] y d lt is = absurd (omega arith)
  part_set zero (x ∷ xs) y d lt is = ap (λ (z : X). z ∷ xs) is
  part_set (suc i) (x ∷ xs) y d lt is = ap (λ (l : List X). f x ∷ l) (part_set i xs y d (omega arith) is)
