-- Lists from a place on, and without the element at a place.
use Rattle.std.proofs.Common.{◌≡◌, ℕ, suc, ◌+◌, ◌-◌, ◌<◌, List, ◌∷◌, ◌++◌, length, map, get_or, take, drop, sym, ap, ◌∙◌, drop-cons, add-one, arith}
use Rattle.std.proofs.lemmas.List.{map-append, take_all, length-drop}
use Rattle.std.specs.List.{remove}
use Rattle.ic_term.specs.declared.term.Equation.{Equation}
use Rattle.ic_term.specs.Term.{pair}

-- the element at a place, and those after it
pub drop_at : {X : Type 0} (xs : List X) (i : ℕ) (x : X) → i < length xs → x ≡ get_or xs i x → drop i xs ≡ x ∷ drop (i + 1) xs
drop_at xs i x within here = drop-cons xs i x within ∙ ap (λ d. d ∷ drop (suc i) xs) (sym here) ∙ ap (λ k. x ∷ drop k xs) (sym (add-one i))

pub take_rest : (es : List Equation) (k : ℕ) → take (length es - k) (drop k es) ≡ drop k es
take_rest es k = take_all (length es - k) (drop k es) (omega (arith, length-drop k es))

pub map_remove : (es : List Equation) (i : ℕ) → map pair (remove es i) ≡ map pair (take i es) ++ map pair (drop (i + 1) es)
map_remove es i = map-append pair (take i es) (drop (suc i) es) ∙ ap (λ k. map pair (take i es) ++ map pair (drop k es)) (sym (add-one i))
