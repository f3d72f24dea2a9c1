-- Where names stand: different names stand in different places, and one place is filled.
use Rattle.std.proofs.Common.{◌≡◌, ◌⊎◌, ℕ, zero, suc, ◌+◌, ◌*◌, ◌/◌, ◌%◌, ◌^◌, ◌<◌, ◌==◌, ◌&&◌, List, [], ◌∷◌, Bool, true, false, cond, Option, None, Some, length, slice_get, slice_set, nat_lt, refl, sym, ap, ◌∙◌, arith, inl, inr}
use Rattle.std.proofs.Math.Nat.{mod-lt, div-add-mod}
use Rattle.std.proofs.lemmas.Bool.{cases_eq, eqb-true, eq-eqb, ne_eqb, false≢true}
use Rattle.ic_names.specs.declared.row.Row.{Row}
use Rattle.ic_names.specs.Row.{column_of, row_of}
use Rattle.ic_names.specs.Table.{slot_at, slot_in, slot_of}

-- ---- names

-- a name is told by its row and its column
pub same_name : (x y : ℕ) → row_of x ≡ row_of y → column_of x ≡ column_of y → x ≡ y
same_name x y rows columns = at (nat_lt x (2 ^ 32)) (nat_lt y (2 ^ 32)) rows columns
  where
    at : (a b : Bool) → cond a (x % 26) 26 ≡ cond b (y % 26) 26 → cond a (x / 26) x ≡ cond b (y / 26) y → x ≡ y
    at true true r c = omega (arith, div-add-mod x 26, div-add-mod y 26, r, c)
    at true false r c = let low : x % 26 < 26 = mod-lt x (omega arith) in absurd (omega arith)
    at false true r c = let low : y % 26 < 26 = mod-lt y (omega arith) in absurd (omega arith)
    at false false r c = c

-- ---- lists

set_here : {X : Type 0} (xs : List X) (i : ℕ) (x : X) → i < length xs → slice_get (slice_set xs i x) i ≡ Some x
set_here [] i x within = absurd (omega arith)
set_here (y ∷ xs) zero x within = refl
set_here (y ∷ xs) (suc i) x within = set_here xs i x (omega arith)

set_elsewhere : {X : Type 0} (xs : List X) (i j : ℕ) (x : X) → (j ≡ i → ⊥) → slice_get (slice_set xs i x) j ≡ slice_get xs j
set_elsewhere [] i j x other = refl
set_elsewhere (y ∷ xs) zero zero x other = absurd (other refl)
set_elsewhere (y ∷ xs) zero (suc j) x other = refl
set_elsewhere (y ∷ xs) (suc i) zero x other = refl
set_elsewhere (y ∷ xs) (suc i) (suc j) x other = set_elsewhere xs i j x (λ e. other (ap suc e))

-- ---- a place is filled

pub place_filled : (rows : List Row) (old new : Row) (name number i k : ℕ) (there : Bool) → i ≡ row_of name → k ≡ column_of name → i < length rows
    → slice_get rows i ≡ Some old
    → ((c : ℕ) → slot_in new c ≡ cond (there && (k == c)) (Some number) (slot_in old c))
    → (x : ℕ) → slot_of (slice_set rows i new) x ≡ cond (there && (name == x)) (Some number) (slot_of rows x)
place_filled rows old new name number i k there row column within is filled x = by (cases_eq (row_of x) i)
  where
    apart : (a : Bool) → (a && false) ≡ false
    apart true = refl
    apart false = refl

    same_test : row_of x ≡ i → (k == column_of x) ≡ (name == x)
    same_test here = at (cases_eq name x)
      where
        at : (name ≡ x) ⊎ (name ≡ x → ⊥) → (k == column_of x) ≡ (name == x)
        at (inl e) = eq-eqb k (column_of x) (column ∙ ap column_of e) ∙ sym (eq-eqb name x e)
        at (inr n) = ne_eqb k (column_of x) (λ c. n (same_name name x (sym row ∙ sym here) (sym column ∙ c))) ∙ sym (ne_eqb name x n)

    by : (row_of x ≡ i) ⊎ (row_of x ≡ i → ⊥)
        → slot_of (slice_set rows i new) x ≡ cond (there && (name == x)) (Some number) (slot_of rows x)
    by (inl here) =
        let now : slot_of (slice_set rows i new) x ≡ slot_in new (column_of x) =
        ap (λ o. slot_at o (column_of x)) (ap (slice_get (slice_set rows i new)) here ∙ set_here rows i new within) in
        let before : slot_of rows x ≡ slot_in old (column_of x) = ap (λ o. slot_at o (column_of x)) (ap (slice_get rows) here ∙ is) in
        now ∙ filled (column_of x) ∙ (λ j. cond (there && same_test here j) (Some number) (sym before j))
    by (inr other) =
        let differ : (name == x) ≡ false = ne_eqb name x (λ e. other (sym (ap row_of e) ∙ sym row)) in
        ap (λ o. slot_at o (column_of x)) (set_elsewhere rows i (row_of x) new other)
        ∙ sym (ap (λ b. cond (there && b) (Some number) (slot_of rows x)) differ ∙ ap (λ b. cond b (Some number) (slot_of rows x)) (apart there))
