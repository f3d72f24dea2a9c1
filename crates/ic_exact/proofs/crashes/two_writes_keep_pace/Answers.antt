use Rattle.std.proofs.Common.{◌≡◌, ◌⊎◌, ◌+◌, ◌≤◌, ℕ, List, inl, inr, arith, subst}
use Rattle.ic_disk.specs.Images.{Torn}
use Rattle.ic_exact.proofs.crashes.two_writes_keep_pace.Goals as goal

last_torn : (at n : ℕ) (content file : List ℕ) → ((image : List ℕ) × (image ≡ content) × Torn at n image file) ⊎ ⊥ → Torn at n content file
last_torn at n content file (inl (image, is, torn)) = subst (λ (f : List ℕ). Torn at n f file) is torn
last_torn at n content file (inr none) = absurd none

one_torn : (Before : Type 0) (at n : ℕ) (content file : List ℕ) → Before ⊎ (((image : List ℕ) × (image ≡ content) × Torn at n image file) ⊎ ⊥)
    → Before ⊎ Torn at n content file
one_torn Before at n content file (inl before) = inl before
one_torn Before at n content file (inr last) = inr (last_torn at n content file last)

-- four calls are two and two
twice_two : (t k : ℕ) → t + 4 ≤ k → t + 2 + 2 ≤ k
twice_two t k since = omega (arith, since)

pub returns-clause-at_first : goal.returns-clause-at_first
returns-clause-at_first g c = λ v w k file paced since left. one_torn _ _ _ _ file (paced.0 file (k, since, left))

pub returns-clause-after_two : goal.returns-clause-after_two
returns-clause-after_two g c = λ v w k file paced since left. last_torn _ _ _ file (paced.1.0 file (k, since, left))

pub returns-clause-after_four : goal.returns-clause-after_four
returns-clause-after_four g c = λ v w k file paced since left. paced.1.1 file (k, twice_two _ k since, left)
