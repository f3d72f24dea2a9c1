-- Names that are 0, 1, .. by first occurrence, one after the other.
use Rattle.std.proofs.Common.{◌≡◌, ℕ, zero, suc, ◌+◌, ◌≤◌, ◌<◌, ◌==◌, Bool, true, false, ◌||◌, List, [], ◌∷◌, ◌++◌, cond, length, get_or, take, drop, refl, sym, ap, ◌∙◌, append_assoc, arith, add-one}
use Rattle.std.proofs.lemmas.Grind.{common_steps}
use Rattle.std.proofs.lemmas.List.{take_more, take-append-drop}
use Rattle.std.specs.List.{list_any, range_with_len}
use Rattle.ic_rules.specs.Renaming.{first_after, first_occurrences}
use Rattle.ic_rules.proofs.FirstPlaces.{first_after-append, grows}

-- a number is among those from one on
below_range : (a k n : ℕ) → a ≤ n → n < a + k → list_any (λ m. n == m) (range_with_len a k) ≡ true
below_range a zero n low high = absurd (omega arith)
below_range a (suc k) n low high = by_test (n == a) refl (below_range (a + 1) k n)
  where
    by_test : (b : Bool) → (n == a) ≡ b → (a + 1 ≤ n → n < a + 1 + k → list_any (λ m. n == m) (range_with_len (a + 1) k) ≡ true)
        → (b || list_any (λ m. n == m) (range_with_len (a + 1) k)) ≡ true
    by_test true e below = refl
    by_test false e below = below (grind (arith, common_steps)) (omega arith)

-- a number past them isn't
past_range : (a k n : ℕ) → a + k ≤ n → list_any (λ m. n == m) (range_with_len a k) ≡ false
past_range a zero n past = refl
past_range a (suc k) n past =
    let other : (n == a) ≡ false = grind (arith, common_steps) in
    rw other (past_range (a + 1) k n (omega arith))

-- the next number, after those before it
range-next : (a k : ℕ) → range_with_len a k ++ (a + k) ∷ [] ≡ range_with_len a (k + 1)
range-next a zero = let same : a + 0 ≡ a = omega arith in ap (λ n. n ∷ []) same
range-next a (suc k) =
    let rest : range_with_len (a + 1) k ++ (a + 1 + k) ∷ [] ≡ range_with_len (a + 1) (suc k) = range-next (a + 1) k ∙ ap (range_with_len (a + 1)) (add-one k) in
    let moved : a + suc k ≡ a + 1 + k = omega arith in
    rw (add-one (suc k), moved) (ap (λ ns. a ∷ ns) rest)

-- numbers in order go on with the next one
goes_on : (a k len n : ℕ) (more : List ℕ) → range_with_len a k ++ n ∷ more ≡ range_with_len a len → n ≡ a + k
goes_on a zero zero n more same = cc
goes_on a zero (suc len) n more same = ap (head_or 0) same ∙ omega arith
  where
    head_or : ℕ → List ℕ → ℕ
    head_or d [] = d
    head_or d (m ∷ ms) = m
goes_on a (suc k) zero n more same = cc
goes_on a (suc k) (suc len) n more same = goes_on (a + 1) k len n more (ap rest_of same) ∙ omega arith
  where
    rest_of : List ℕ → List ℕ
    rest_of [] = []
    rest_of (m ∷ ms) = ms

firsts_more : (names : List ℕ) (i : ℕ) → i < length names
    → first_occurrences (take (i + 1) names) ≡ first_after (first_occurrences (take i names)) (get_or names i 0 ∷ [])
firsts_more names i within = ap first_occurrences (take_more names i 0 within) ∙ first_after-append (take i names) (get_or names i 0 ∷ []) []

-- a name that was there
pub counted_again : (names : List ℕ) (i k : ℕ) → i < length names → first_occurrences (take i names) ≡ range_with_len 0 k → get_or names i 0 < k
    → first_occurrences (take (i + 1) names) ≡ range_with_len 0 k
counted_again names i k within so_far below =
    firsts_more names i within ∙ ap (λ seen. first_after seen (get_or names i 0 ∷ [])) so_far
    ∙ ap (λ b. cond b (range_with_len 0 k) (range_with_len 0 k ++ get_or names i 0 ∷ [])) (below_range 0 k (get_or names i 0) (omega arith) (omega arith))

-- the next name
pub counted_next : (names : List ℕ) (i k : ℕ) → i < length names → first_occurrences (take i names) ≡ range_with_len 0 k → get_or names i 0 ≡ k
    → first_occurrences (take (i + 1) names) ≡ range_with_len 0 (k + 1)
counted_next names i k within so_far next =
    firsts_more names i within ∙ ap (λ seen. first_after seen (get_or names i 0 ∷ [])) so_far
    ∙ ap (λ b. cond b (range_with_len 0 k) (range_with_len 0 k ++ get_or names i 0 ∷ [])) (past_range 0 k (get_or names i 0) (omega (arith, next)))
    ∙ ap (λ n. range_with_len 0 k ++ n ∷ []) (next ∙ omega arith) ∙ range-next 0 k

-- a name past the next one: the names aren't in order
pub passed_over : (names : List ℕ) (i k len : ℕ) → i < length names → first_occurrences (take i names) ≡ range_with_len 0 k → k < get_or names i 0
    → first_occurrences names ≡ range_with_len 0 len → ⊥
passed_over names i k len within so_far past in_order =
    let name = get_or names i 0 in
    let here : first_occurrences (take (i + 1) names) ≡ range_with_len 0 k ++ name ∷ [] = firsts_more names i within ∙ ap (λ seen. first_after seen (name ∷ [])) so_far
    ∙ ap (λ b. cond b (range_with_len 0 k) (range_with_len 0 k ++ name ∷ [])) (past_range 0 k name (omega arith)) in
    let rest = grows (drop (i + 1) names) (range_with_len 0 k ++ name ∷ []) in
    let whole : first_occurrences names ≡ first_after (first_occurrences (take (i + 1) names)) (drop (i + 1) names) =
    ap first_occurrences (sym (take-append-drop (i + 1) names)) ∙ first_after-append (take (i + 1) names) (drop (i + 1) names) [] in
    let all : range_with_len 0 k ++ name ∷ rest.0 ≡ range_with_len 0 len =
    sym (append_assoc (range_with_len 0 k) (name ∷ []) rest.0) ∙ sym rest.1 ∙ ap (λ seen. first_after seen (drop (i + 1) names)) (sym here) ∙ sym whole ∙ in_order in
    let is : name ≡ 0 + k = goes_on 0 k len name rest.0 all in
    omega (arith, is, past)
