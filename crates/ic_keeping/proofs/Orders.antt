-- What fires in another order fires as often.
use Rattle.std.proofs.Common.{◌≡◌, ◌==◌, ℕ, List, [], ◌∷◌, length, cond, refl, sym, ◌∙◌, arith, sum_by}
use Rattle.std.specs.Prelude.{IsPermutation}
use Rattle.std.proofs.lemmas.List.Sorted.{sum_by-IsPermutation}
use Rattle.std.proofs.lemmas.List.Sums.{sum_by-cons}
use Rattle.ic_in_place.specs.Counting.{AreCounts}

same_length : {X : Type 0} (xs : List X) → sum_by (λ x. 1) xs ≡ length xs
same_length [] = refl
same_length (x ∷ xs) = omega (arith, sum_by-cons (λ x. 1) x xs, same_length xs)

pub as_many : (xs ys : List ℕ) → IsPermutation xs ys → length ys ≡ length xs
as_many xs ys moved = sym (same_length ys) ∙ sum_by-IsPermutation (λ x. 1) xs ys moved ∙ same_length xs

pub counts_moved : (rules : ℕ) (fired others by_rule : List ℕ) → IsPermutation fired others → AreCounts rules fired by_rule
    → AreCounts rules others by_rule
counts_moved rules fired others by_rule moved counts = record {
  all = counts.all;
  each = λ i there. counts.each i there ∙ sym (sum_by-IsPermutation (λ j. cond (j == i) 1 0) fired others moved);
}
