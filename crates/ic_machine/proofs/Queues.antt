-- Equations of which some at the front were taken.
use Rattle.std.proofs.Common.{◌≡◌, ℕ, zero, suc, ◌+◌, ◌<◌, List, [], ◌∷◌, ◌++◌, length, take, drop, slice_index_or, ap, refl, sym, ◌∙◌, arith}
use Rattle.ic_machine.specs.declared.equation.Equation.{Equation}
use Rattle.ic_machine.specs.inner.Pairs.{IsFirst, IsLast}

-- the first one that wasn't taken
pub first_left : (es : List Equation) (n : ℕ) (d : Equation) → n < length es
    → drop n es ≡ slice_index_or es n d ∷ drop (n + 1) es
first_left es n d lt =
    let next : suc n ≡ n + 1 = omega arith in
    at es n lt ∙ ap (λ (k : ℕ). slice_index_or es n d ∷ drop k es) next
  where
    at : (es : List Equation) (n : ℕ) → n < length es → drop n es ≡ slice_index_or es n d ∷ drop (suc n) es
    at [] n lt = absurd (omega arith)
    at (e ∷ es) zero lt = refl
    at (e ∷ es) (suc n) lt = at es n (omega arith)

-- the last one of some that weren't taken
pub last_left : (es : List Equation) (n k : ℕ) (d : Equation) → n < length es → k + 1 ≡ length es
    → drop n es ≡ drop n (take k es) ++ slice_index_or es k d ∷ []
last_left [] n k d lt end = absurd (omega arith)
last_left (e ∷ []) zero zero d lt end = refl
last_left (e ∷ []) zero (suc k) d lt end = absurd (omega arith)
last_left (e ∷ []) (suc n) k d lt end = absurd (omega arith)
last_left (e ∷ (f ∷ es)) zero zero d lt end = absurd (omega arith)
last_left (e ∷ (f ∷ es)) zero (suc k) d lt end = ap (λ (l : List Equation). e ∷ l) (last_left (f ∷ es) zero k d (omega arith) (omega arith))
last_left (e ∷ (f ∷ es)) (suc n) zero d lt end = absurd (omega arith)
last_left (e ∷ (f ∷ es)) (suc n) (suc k) d lt end = last_left (f ∷ es) n k d (omega arith) (omega arith)

-- the last one is known
pub taken_last : (es left : List Equation) (e x : Equation) → IsLast e es → es ≡ left ++ x ∷ [] → es ≡ left ++ e ∷ []
taken_last es left e x last is = is ∙ ap (λ (v : Equation). left ++ v ∷ []) (same_end left last.front x e (sym is ∙ last.is))
  where
    same_end : (xs ys : List Equation) (v w : Equation) → xs ++ v ∷ [] ≡ ys ++ w ∷ [] → v ≡ w
    same_end [] [] v w h = cc
    same_end [] (z ∷ []) v w h = absurd (cc h)
    same_end [] (z ∷ (y ∷ ys)) v w h = absurd (cc h)
    same_end (x ∷ []) [] v w h = absurd (cc h)
    same_end (x ∷ (y ∷ xs)) [] v w h = absurd (cc h)
    same_end (x ∷ xs) (z ∷ ys) v w h =
        let tails : xs ++ v ∷ [] ≡ ys ++ w ∷ [] = cc in
        same_end xs ys v w tails

-- the first one is known
pub taken_first : (es left : List Equation) (e x : Equation) → IsFirst e es → es ≡ x ∷ left → es ≡ e ∷ left
taken_first es left e x first is = is ∙ ap (λ (v : Equation). v ∷ left) (same_head left first.rest x e (sym is ∙ first.is))
  where
    same_head : (xs ys : List Equation) (v w : Equation) → v ∷ xs ≡ w ∷ ys → v ≡ w
    same_head xs ys v w h = cc
