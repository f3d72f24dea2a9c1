-- Lists from a place on.
use Rattle.std.proofs.Common.{◌≡◌, ℕ, suc, ◌+◌, ◌<◌, List, ◌∷◌, length, get_or, drop, sym, ap, ◌∙◌, drop-cons, add-one}

-- the element at a place, and those after it
pub drop_at : {X : Type 0} (xs : List X) (i : ℕ) (x : X) → i < length xs → x ≡ get_or xs i x → drop i xs ≡ x ∷ drop (i + 1) xs
drop_at xs i x within here = drop-cons xs i x within ∙ ap (λ d. d ∷ drop (suc i) xs) (sym here) ∙ ap (λ k. x ∷ drop k xs) (sym (add-one i))
