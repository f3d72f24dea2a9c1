-- Lemmas: what fired has one list of counts.
use Rattle.std.proofs.Common.{◌≡◌, ℕ, zero, suc, ◌<◌, ◌==◌, List, [], ◌∷◌, length, count_by, slice_index_or, refl, sym, ◌∙◌, arith}
use Rattle.ic_in_place.specs.Counting.{AreCounts}

same_lists : (xs ys : List ℕ) → length xs ≡ length ys → ((i : ℕ) → i < length xs → slice_index_or xs i 0 ≡ slice_index_or ys i 0) → xs ≡ ys
same_lists [] [] many each = refl
same_lists [] (y ∷ ys) many each = absurd (omega (arith, many))
same_lists (x ∷ xs) [] many each = absurd (omega (arith, many))
same_lists (x ∷ xs) (y ∷ ys) many each =
    let first : x ≡ y = each 0 (omega arith) in
    let others = same_lists xs ys (omega (arith, many)) (λ i low. each (suc i) (omega (arith, low))) in
    (λ j. first j ∷ others j)

pub one_count : (rules : ℕ) (fired a b : List ℕ) → AreCounts rules fired a → AreCounts rules fired b → a ≡ b
one_count rules fired a b are also =
    same_lists a b (are.all ∙ sym also.all)
    (λ i low. let there : i < rules = omega (arith, low, are.all) in are.each i there ∙ sym (also.each i there))

-- rules 0, 1 and 1 fired
example_at : (i : ℕ) → i < 2 → slice_index_or (1 ∷ 2 ∷ []) i 0 ≡ count_by (λ j. j == i) (0 ∷ 1 ∷ 1 ∷ [])
example_at zero low = refl
example_at (suc zero) low = refl
example_at (suc (suc i)) low = absurd (omega arith)

pub example_counts : AreCounts 2 (0 ∷ 1 ∷ 1 ∷ []) (1 ∷ 2 ∷ [])
example_counts = record { all = refl; each = example_at }
