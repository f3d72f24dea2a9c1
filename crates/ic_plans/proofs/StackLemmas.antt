-- Registers that are taken from a stack.
use Rattle.std.proofs.Common.{◌≡◌, ℕ, ◌+◌, List, ◌++◌, length, take, drop, reverse, sym, ap, ◌∙◌, arith}
use Rattle.std.proofs.lemmas.List.{reverse-append, length-reverse, length-drop, take-append-drop, take_at, drop_at}

-- what is cut off a stack is what was on top
module _ (xs : List ℕ) (k n : ℕ) (cut : k + n ≡ length xs) where
  turned : reverse (drop k xs) ++ reverse (take k xs) ≡ reverse xs
  turned = sym (reverse-append (take k xs) (drop k xs)) ∙ ap reverse (take-append-drop k xs)

  counted : length (reverse (drop k xs)) ≡ n
  counted = omega (arith, length-reverse (drop k xs), length-drop k xs)

  pub take-reverse : reverse (drop k xs) ≡ take n (reverse xs)
  take-reverse = sym (take_at (reverse (drop k xs)) (reverse (take k xs)) n counted) ∙ ap (take n) turned

  pub drop-reverse : reverse (take k xs) ≡ drop n (reverse xs)
  drop-reverse = sym (drop_at (reverse (drop k xs)) (reverse (take k xs)) n counted) ∙ ap (drop n) turned
