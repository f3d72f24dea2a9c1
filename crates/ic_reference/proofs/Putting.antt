-- Results put in their places.
use Rattle.std.proofs.Common.{◌≡◌, ℕ, zero, suc, ◌≤◌, ◌<◌, List, [], ◌∷◌, true, false, Option, None, Some, is_none, length, map, get_or, refl, sym, ap, ◌∙◌, arith}
use Rattle.std.proofs.Math.ListN.{set}
use Rattle.ic_term.specs.Tree.{Pair}
use Rattle.ic_reference.specs.inner.Slots.{slot_of, put_in}
use Rattle.ic_reference.specs.declared.slots.Slot.{Slot}

-- ---- the program's places

put_awaited : (o : Option (List Pair)) (ps : List Pair) (ss : List (Option (List Pair))) → is_none o ≡ true → put_in 0 ps (o ∷ ss) ≡ (Some ps ∷ ss, true)
put_awaited None ps ss e = refl
put_awaited (Some q) ps ss e = cc

put_taken : (o : Option (List Pair)) (ps : List Pair) (ss : List (Option (List Pair))) → is_none o ≡ false → put_in 0 ps (o ∷ ss) ≡ (o ∷ ss, false)
put_taken None ps ss e = cc
put_taken (Some q) ps ss e = refl

pub put-awaited : (xs : List Slot) (n : ℕ) (s t : Slot) → n < length xs → s ≡ get_or xs n s → is_none (slot_of s) ≡ true → (ps : List Pair) → slot_of t ≡ Some ps
    → put_in n ps (map slot_of xs) ≡ (map slot_of (set xs n t), true)
put-awaited [] n s t within is free ps new = absurd (omega arith)
put-awaited (x ∷ xs) zero s t within is free ps new =
    put_awaited (slot_of x) ps (map slot_of xs) (ap (λ y. is_none (slot_of y)) (sym is) ∙ free) ∙ ap (λ o. (o ∷ map slot_of xs, true)) (sym new)
put-awaited (x ∷ xs) (suc n) s t within is free ps new = ap (λ r. (slot_of x ∷ r.0, r.1)) (put-awaited xs n s t (omega arith) is free ps new)

pub put-taken : (xs : List Slot) (n : ℕ) (s : Slot) → n < length xs → s ≡ get_or xs n s → is_none (slot_of s) ≡ false → (ps : List Pair)
    → put_in n ps (map slot_of xs) ≡ (map slot_of xs, false)
put-taken [] n s within is taken ps = refl
put-taken (x ∷ xs) zero s within is taken ps = put_taken (slot_of x) ps (map slot_of xs) (ap (λ y. is_none (slot_of y)) (sym is) ∙ taken)
put-taken (x ∷ xs) (suc n) s within is taken ps = ap (λ r. (slot_of x ∷ r.0, r.1)) (put-taken xs n s (omega arith) is taken ps)

pub put-past : (ss : List (Option (List Pair))) (n : ℕ) (ps : List Pair) → length ss ≤ n → put_in n ps ss ≡ (ss, false)
put-past [] n ps past = refl
put-past (s ∷ ss) zero ps past = absurd (omega arith)
put-past (s ∷ ss) (suc n) ps past = ap (λ r. (s ∷ r.0, r.1)) (put-past ss n ps (omega arith))
