-- Lemmas: a reduction that was cut and went on.
use Rattle.std.proofs.Common.{◌≡◌, ℕ, List, [], ◌∷◌, length, refl, sym, ◌∙◌, arith, sum_by, subst}
use Rattle.std.specs.Prelude.{IsPermutation}
use Rattle.std.proofs.lemmas.List.Sorted.{sum_by-IsPermutation}
use Rattle.std.proofs.lemmas.List.Sums.{sum_by-cons}
use Rattle.ic_term.specs.Configuration.{Configuration}
use Rattle.ic_rules.specs.System.{SystemParts}
use Rattle.ic_round.specs.Quiet.{IsQuiet}
use Rattle.ic_in_place.specs.declared.running.Bounds.{Bounds}
use Rattle.ic_in_place.specs.declared.running.End.{End}
use Rattle.ic_in_place.specs.declared.running.End.TheVariants.{Quiet}
use Rattle.ic_in_place.specs.Reducing.{EndsBy}

each_one : (xs : List ℕ) → sum_by (λ x. 1) xs ≡ length xs
each_one [] = refl
each_one (x ∷ xs) = omega (arith, sum_by-cons (λ y. 1) x xs, each_one xs)

-- as many fired, in whatever order
pub as_many : (xs ys : List ℕ) → IsPermutation xs ys → length ys ≡ length xs
as_many xs ys moved = sym (each_one ys) ∙ sum_by-IsPermutation (λ x. 1) xs ys moved ∙ each_one xs

pub quiet_end : (s : SystemParts) (bounds : Bounds) (answer : Configuration) (interactions : ℕ) (end : End)
    → EndsBy s.rules.rules bounds answer interactions end → end ≡ Quiet → IsQuiet s.rules.rules answer
quiet_end s bounds answer interactions end stops quiet = (subst (EndsBy s.rules.rules bounds answer interactions) quiet stops).0
