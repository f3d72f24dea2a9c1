-- Places of elements, and tests of the elements left.
use Rattle.std.proofs.Common.{◌≡◌, ℕ, ◌+◌, ◌<◌, ◌≤◌, Bool, true, false, not, List, None, Some, length, get_or, drop, unwrap_or, cond, nat_lt, refl, arith, drop-cons, add-one}
use Rattle.std.proofs.lemmas.Grind.{common_steps}
use Rattle.std.specs.List.{list_all, position, position_or_len}
use Rattle.std.proofs.lemmas.List.Sums.{prefix_len-le-length}

-- the place of an element, or the length
pub place_or_length : {X : Type 0} (p : X → Bool) (xs : List X) → unwrap_or (position p xs) (length xs) ≡ position_or_len p xs
place_or_length p xs = chosen (position_or_len p xs) (length xs) (prefix_len-le-length (λ x. not (p x)) xs)
  where
    chosen : (m n : ℕ) → m ≤ n → unwrap_or (cond (nat_lt m n) (Some m) None) n ≡ m
    chosen m n h = grind (arith, common_steps)

-- a test of the elements left, at the first of them
pub list_all-here : (p : ℕ → Bool) (ns : List ℕ) (i : ℕ) → i < length ns → p (get_or ns i 0) ≡ false → list_all p (drop i ns) ≡ false
list_all-here p ns i within fails = rw (drop-cons ns i 0, fails) refl

pub list_all-more : (p : ℕ → Bool) (ns : List ℕ) (i : ℕ) → i < length ns → p (get_or ns i 0) ≡ true → list_all p (drop i ns) ≡ list_all p (drop (i + 1) ns)
list_all-more p ns i within passes = rw (drop-cons ns i 0, passes, add-one i) refl
