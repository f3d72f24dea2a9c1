-- How the number of a pair of symbols is found: none, and one more.
use Rattle.std.proofs.Common.{◌≡◌, ℕ, ◌+◌, ◌*◌, ◌^◌, ◌/◌, ◌%◌, ◌<◌, ◌==◌, ◌&&◌, Bool, true, false, cond, List, [], ◌∷◌, ◌++◌, Option, None, Some, length, set, slice_index_or, nat_lt, refl, sym, ap, ◌∙◌, arith}
use Rattle.std.specs.Cmp.{unsigned_Decides}
use Rattle.std.specs.Ordering.{nat_cmp}
use Rattle.std.specs.BTreeMap.{get}
use Rattle.std.proofs.lemmas.Bool.{and_from, and_parts, false_from_ne_true, ltb-true, ltb-false, lt-ltb}
use Rattle.std.proofs.lemmas.List.{get_or-set_same, get_or-set_other}
use Rattle.std.proofs.lemmas.Nat.{mul-add-lt, div-mul-add, mod-mul-add}
use Rattle.ic_machine.specs.Plan.{place_of}
use Rattle.ic_machine.specs.inner.PairIndex.{Keyed, key_of, number_in, IsIndex}
use Rattle.ic_machine.specs.lemmas.PairLaws.{pair_same, place_pushed, same_pair}

-- two pairs of one place, in rows of this length
one_place : (rows a b x y : ℕ) → b < rows → y < rows → x * rows + y ≡ a * rows + b → (x ≡ a) × (y ≡ b)
one_place rows a b x y lb ly e = (
  sym (div-mul-add x rows y ly) ∙ ap (λ k. k / rows) e ∙ div-mul-add a rows b lb,
  sym (mod-mul-add x rows y ly) ∙ ap (λ k. k % rows) e ∙ mod-mul-add a rows b lb,
)

module _ (rows : ℕ) (es : List (Option ℕ)) (others : Keyed) (a b number : ℕ) where
  -- a number in the row of a pair
  module _ (square : length es ≡ rows * rows) (la : a < rows) (lb : b < rows) where
    row_read : (x y : ℕ) → y < rows → (c : Bool) → (a == x && b == y) ≡ c
        → slice_index_or (set es (a * rows + b) (Some number)) (x * rows + y) None ≡ cond c (Some number) (slice_index_or es (x * rows + y) None)
    row_read x y ly true e =
        let same = same_pair a b x y e in
        let place : x * rows + y ≡ a * rows + b = (λ i. same.0 i * rows + same.1 i) in
        let there : a * rows + b < length es = let h = mul-add-lt a rows b rows la lb in omega (arith, h, square) in
        ap (λ k. slice_index_or (set es (a * rows + b) (Some number)) k None) place ∙ get_or-set_same es (a * rows + b) (Some number) None there
    row_read x y ly false e =
        let apart : (x * rows + y ≡ a * rows + b) → ⊥ =
        (λ p. let two = one_place rows a b x y lb ly p in let t = pair_same a b x y two.0 two.1 in let z = sym t ∙ e in cc) in
        get_or-set_other es (a * rows + b) (x * rows + y) (Some number) None apart

    pub put_row : (x y : ℕ) → number_in rows (set es (a * rows + b) (Some number)) others x y ≡ cond (a == x && b == y) (Some number) (number_in rows es others x y)
    put_row x y = by (nat_lt x rows && nat_lt y rows) refl
      where
        other : Option ℕ
        other = cond (nat_lt y (2 ^ 32)) (get nat_cmp others (key_of x y)) None

        by : (c : Bool) → (nat_lt x rows && nat_lt y rows) ≡ c
            → cond c (slice_index_or (set es (a * rows + b) (Some number)) (x * rows + y) None) other
            ≡ cond (a == x && b == y) (Some number) (cond c (slice_index_or es (x * rows + y) None) other)
        by true e = row_read x y (ltb-true y rows (and_parts (nat_lt x rows) (nat_lt y rows) e).1) (a == x && b == y) refl
        by false e =
            let apart : (a == x && b == y) ≡ true → ⊥ =
            (λ t. let same = same_pair a b x y t in
            let low = and_from (nat_lt x rows) (nat_lt y rows) (ap (λ k. nat_lt k rows) same.0 ∙ lt-ltb a rows la) (ap (λ k. nat_lt k rows) same.1 ∙ lt-ltb b rows lb) in
            let z = sym low ∙ e in cc) in
            sym (ap (λ t. cond t (Some number) other) (false_from_ne_true (a == x && b == y) apart))

  -- a number that is found by its key
  module _ (new : Keyed) (high : (a < rows → b < rows → ⊥)) (few : b < 2 ^ 32)
      (updated : (k : ℕ) → get nat_cmp new k ≡ cond (key_of a b == k) (Some number) (get nat_cmp others k)) where
    key_read : (x y : ℕ) → y < 2 ^ 32 → (c d : Bool) → (a == x && b == y) ≡ c → (key_of a b == key_of x y) ≡ d
        → cond d (Some number) (get nat_cmp others (key_of x y)) ≡ cond c (Some number) (get nat_cmp others (key_of x y))
    key_read x y ly true true e f = refl
    key_read x y ly false false e f = refl
    key_read x y ly true false e f =
        let same = same_pair a b x y e in
        let t = (unsigned_Decides (key_of a b) (key_of x y)).1 (λ i. key_of (sym same.0 i) (sym same.1 i)) in
        let z = sym t ∙ f in absurd cc
    key_read x y ly false true e f =
        let k : a * 2 ^ 32 + b ≡ x * 2 ^ 32 + y = (unsigned_Decides (key_of a b) (key_of x y)).0 f in
        let left : x ≡ a = omega (arith, k, ly, few) in
        let right : y ≡ b = omega (arith, k, ly, few) in
        let t = pair_same a b x y left right in
        let z = sym t ∙ e in absurd cc

    pub put_key : (x y : ℕ) → number_in rows es new x y ≡ cond (a == x && b == y) (Some number) (number_in rows es others x y)
    put_key x y = by (nat_lt x rows && nat_lt y rows) refl (nat_lt y (2 ^ 32)) refl
      where
        row : Option ℕ
        row = slice_index_or es (x * rows + y) None

        by : (c : Bool) → (nat_lt x rows && nat_lt y rows) ≡ c → (d : Bool) → nat_lt y (2 ^ 32) ≡ d
            → cond c row (cond d (get nat_cmp new (key_of x y)) None)
            ≡ cond (a == x && b == y) (Some number) (cond c row (cond d (get nat_cmp others (key_of x y)) None))
        by true e d f =
            let low = and_parts (nat_lt x rows) (nat_lt y rows) e in
            let apart : (a == x && b == y) ≡ true → ⊥ =
            (λ t. let same = same_pair a b x y t in
            high (let h = ltb-true x rows low.0 in let s = same.0 in omega (arith, h, s)) (let h = ltb-true y rows low.1 in let s = same.1 in omega (arith, h, s))) in
            sym (ap (λ t. cond t (Some number) row) (false_from_ne_true (a == x && b == y) apart))
        by false e true f = updated (key_of x y) ∙ key_read x y (ltb-true y (2 ^ 32) f) (a == x && b == y) (key_of a b == key_of x y) refl refl
        by false e false f =
            let apart : (a == x && b == y) ≡ true → ⊥ =
            (λ t. let same = same_pair a b x y t in let h = ltb-false y (2 ^ 32) f in let s = same.1 in absurd (omega (arith, h, s, few))) in
            sym (ap (λ t. cond t (Some number) None) (false_from_ne_true (a == x && b == y) apart))

-- a pair more, for which there was no number
module _ (pairs : List (ℕ × ℕ)) (a b : ℕ) (new : place_of a b pairs ≡ None) where
  -- what finds each pair with this one, once its number is put
  pub index_pushed : (rows : ℕ) (es gs : List (Option ℕ)) (others more : Keyed) → IsIndex pairs rows es others → length gs ≡ length es
      → ((x y : ℕ) → number_in rows gs more x y ≡ cond (a == x && b == y) (Some (length pairs)) (number_in rows es others x y))
      → IsIndex (pairs ++ (a, b) ∷ []) rows gs more
  index_pushed rows es gs others more is len numbers = record {
    square = len ∙ is.square;
    found = λ x y. numbers x y ∙ ap (cond (a == x && b == y) (Some (length pairs))) (is.found x y) ∙ sym (place_pushed pairs a b new x y);
  }

pub index_same : (pairs : List (ℕ × ℕ)) (rows : ℕ) (es gs : List (Option ℕ)) (others more : Keyed) → IsIndex pairs rows es others → length gs ≡ length es
    → ((x y : ℕ) → number_in rows gs more x y ≡ number_in rows es others x y) → IsIndex pairs rows gs more
index_same pairs rows es gs others more is len numbers = record { square = len ∙ is.square; found = λ x y. numbers x y ∙ is.found x y }
