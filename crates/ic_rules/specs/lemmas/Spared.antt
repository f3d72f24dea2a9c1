-- The numbers from 0 on that a test spares: they are found one after another, and each at its place.
use Rattle.std.proofs.Common.{◌≡◌, ℕ, zero, suc, ◌+◌, ◌<◌, ◌≤◌, ◌==◌, Bool, true, false, not, cond, List, [], ◌∷◌, ◌++◌, length, filter, get_or, refl, sym, ap, ◌∙◌, append-nil, arith, add-one, one-add}
use Rattle.std.specs.List.{range_with_len}
use Rattle.std.proofs.lemmas.Bool.{ne_eqb}
use Rattle.std.proofs.lemmas.List.Elements.{filter-append}
use Rattle.ic_rules.specs.Renaming.{number_among}
use Rattle.ic_rules.specs.lemmas.NumberingLaws.{self_eq}

pub range_more : (a n j : ℕ) → a + n ≡ j → range_with_len a (suc n) ≡ range_with_len a n ++ j ∷ []
range_more a zero j is = ap (λ (k : ℕ). k ∷ []) (omega (arith, is))
range_more a (suc n) j is = ap (λ (ms : List ℕ). a ∷ ms) (range_more (a + 1) n j (omega (arith, is)))

filter_more : (p : ℕ → Bool) (n : ℕ) → filter p (range_with_len 0 (n + 1)) ≡ filter p (range_with_len 0 n) ++ cond (p n) (n ∷ []) []
filter_more p n =
    ap (λ (k : ℕ). filter p (range_with_len 0 k)) (add-one n)
    ∙ ap (filter p) (range_more 0 n n (omega arith))
    ∙ filter-append p (range_with_len 0 n) (n ∷ [])

-- a number that is taken is passed over
pub one_taken : (p : ℕ → Bool) (k : ℕ) (so_far : List ℕ) → so_far ≡ filter (λ n. not (p n)) (range_with_len 0 k) → p k ≡ true
    → so_far ≡ filter (λ n. not (p n)) (range_with_len 0 (k + 1))
one_taken p k so_far is taken =
    let before = filter (λ n. not (p n)) (range_with_len 0 k) in
    let more : filter (λ n. not (p n)) (range_with_len 0 (k + 1)) ≡ before =
    filter_more (λ n. not (p n)) k ∙ ap (λ (b : Bool). before ++ cond (not b) (k ∷ []) []) taken ∙ append-nil before in
    is ∙ sym more

-- any other one is spare
pub one_spare : (p : ℕ → Bool) (k : ℕ) (so_far : List ℕ) → so_far ≡ filter (λ n. not (p n)) (range_with_len 0 k) → p k ≡ false
    → so_far ++ k ∷ [] ≡ filter (λ n. not (p n)) (range_with_len 0 (k + 1))
one_spare p k so_far is free =
    let before = filter (λ n. not (p n)) (range_with_len 0 k) in
    let more : filter (λ n. not (p n)) (range_with_len 0 (k + 1)) ≡ before ++ k ∷ [] =
    filter_more (λ n. not (p n)) k ∙ ap (λ (b : Bool). before ++ cond (not b) (k ∷ []) []) free in
    ap (λ (ns : List ℕ). ns ++ k ∷ []) is ∙ sym more

-- ---- each stands once

-- numbers that rise from one on
abbrev Rising : ℕ → List ℕ → Type 0
Rising low [] = Unit {0}
Rising low (x ∷ xs) = (low ≤ x) × Rising (suc x) xs

rising_weaker : (low high : ℕ) (xs : List ℕ) → low ≤ high → Rising high xs → Rising low xs
rising_weaker low high [] less r = tt
rising_weaker low high (x ∷ xs) less r = (omega (arith, less, r.0), r.1)

rising_range : (a k : ℕ) → Rising a (range_with_len a k)
rising_range a zero = tt
rising_range a (suc k) = (omega arith, rising_weaker (suc a) (a + 1) (range_with_len (a + 1) k) (omega arith) (rising_range (a + 1) k))

rising_filter : (p : ℕ → Bool) (low : ℕ) (xs : List ℕ) → Rising low xs → Rising low (filter p xs)
rising_filter p low [] r = tt
rising_filter p low (x ∷ xs) r = by_test (p x) (rising_filter p (suc x) xs r.1)
  where
    by_test : (b : Bool) → Rising (suc x) (filter p xs) → Rising low (cond b (x ∷ filter p xs) (filter p xs))
    by_test true rest = (r.0, rest)
    by_test false rest = rising_weaker low (suc x) (filter p xs) (omega (arith, r.0)) rest

rising_at : (low : ℕ) (xs : List ℕ) (k : ℕ) → Rising low xs → k < length xs → low ≤ get_or xs k 0
rising_at low [] k r less = absurd (omega (arith, less))
rising_at low (x ∷ xs) zero r less = r.0
rising_at low (x ∷ xs) (suc k) r less = omega (arith, r.0, rising_at (suc x) xs k r.1 (omega (arith, less)))

rising_placed : (low : ℕ) (xs : List ℕ) (k : ℕ) → Rising low xs → k < length xs → number_among xs (get_or xs k 0) ≡ k
rising_placed low [] k r less = absurd (omega (arith, less))
rising_placed low (x ∷ xs) zero r less = rw (self_eq x) refl
rising_placed low (x ∷ xs) (suc k) r less =
    let later : k < length xs = omega (arith, less) in
    let apart : (get_or xs k 0 == x) ≡ false = ne_eqb (get_or xs k 0) x (λ same. omega (arith, same, rising_at (suc x) xs k r.1 later)) in
    let rest : number_among xs (get_or xs k 0) ≡ k = rising_placed (suc x) xs k r.1 later in
    rw (apart, one-add) (ap suc rest)

pub spared_placed : (p : ℕ → Bool) (n k : ℕ) → k < length (filter (λ m. not (p m)) (range_with_len 0 n))
    → number_among (filter (λ m. not (p m)) (range_with_len 0 n)) (get_or (filter (λ m. not (p m)) (range_with_len 0 n)) k 0) ≡ k
spared_placed p n k less = rising_placed 0 (filter (λ m. not (p m)) (range_with_len 0 n)) k (rising_filter (λ m. not (p m)) 0 (range_with_len 0 n) (rising_range 0 n)) less
