-- The number one above the greatest of a list.
use Rattle.std.proofs.Common.{◌≡◌, ℕ, ◌+◌, ◌<◌, ◌≤◌, ◌==◌, ◌||◌, Bool, true, false, List, [], ◌∷◌, max, refl, arith}
use Rattle.std.proofs.lemmas.Grind.{common_steps}
use Rattle.std.specs.List.{list_any, AllByRecursion}
use Rattle.ic_term.specs.Configuration.{one_above}

below_more : (a b : ℕ) (ns : List ℕ) → a ≤ b → AllByRecursion (λ n. n < a) ns → AllByRecursion (λ n. n < b) ns
below_more a b [] le all = tt
below_more a b (n ∷ ns) le all = (omega (arith, le, all.0), below_more a b ns le all.1)

pub above_each : (ns : List ℕ) → AllByRecursion (λ n. n < one_above ns) ns
above_each [] = tt
above_each (n ∷ ns) = (omega arith, below_more (one_above ns) (max (n + 1) (one_above ns)) ns (omega arith) (above_each ns))

-- a number one above the greatest is one above some
greatest_there : (ns : List ℕ) (top : ℕ) → one_above ns ≡ top → 0 < top → list_any (λ m. m + 1 == top) ns ≡ true
greatest_there [] top is some = absurd (omega arith)
greatest_there (n ∷ ns) top is some = by_test (n + 1 == top) refl (λ rest. greatest_there ns top rest some)
  where
    by_test : (b : Bool) → (n + 1 == top) ≡ b → (one_above ns ≡ top → list_any (λ m. m + 1 == top) ns ≡ true) → (b || list_any (λ m. m + 1 == top) ns) ≡ true
    by_test true e below = refl
    by_test false e below = below (grind (arith, common_steps, is))

pub one_above_some : (n : ℕ) (ns : List ℕ) → list_any (λ m. m + 1 == one_above (n ∷ ns)) (n ∷ ns) ≡ true
one_above_some n ns = let some : 0 < one_above (n ∷ ns) = omega arith in greatest_there (n ∷ ns) (one_above (n ∷ ns)) refl some
