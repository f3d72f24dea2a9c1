-- Sums over the first numbers.
use Rattle.std.proofs.Common.{◌≡◌, ℕ, zero, suc, ◌+◌, ◌<◌, ◌≤◌, ◌==◌, inl, inr, List, [], ◌∷◌, Bool, cond, length, slice_index_or, refl, ◌∙◌, sym, ap, arith, sum, sum_by}
use Rattle.std.proofs.lemmas.Bool.{eq-eqb, ne_eqb}
use Rattle.std.proofs.lemmas.Bool.Decides.{eqb_tells, leb_tells}
use Rattle.std.proofs.lemmas.List.Sums.{sum_by-cons}

abbrev pub upto : ℕ → (ℕ → ℕ) → ℕ
upto zero f = 0
upto (suc n) f = f 0 + upto n (λ s. f (suc s))

pub upto_le : (n : ℕ) (f g : ℕ → ℕ) → ((s : ℕ) → f s ≤ g s) → upto n f ≤ upto n g
upto_le zero f g h = omega arith
upto_le (suc n) f g h = omega (arith, h 0, upto_le n (λ s. f (suc s)) (λ s. g (suc s)) (λ s. h (suc s)))

pub upto_same : (n : ℕ) (f g : ℕ → ℕ) → ((s : ℕ) → f s ≡ g s) → upto n f ≡ upto n g
upto_same zero f g h = refl
upto_same (suc n) f g h = omega (arith, h 0, upto_same n (λ s. f (suc s)) (λ s. g (suc s)) (λ s. h (suc s)))

pub upto_both : (n : ℕ) (f g : ℕ → ℕ) → upto n (λ s. f s + g s) ≡ upto n f + upto n g
upto_both zero f g = refl
upto_both (suc n) f g = omega (arith, upto_both n (λ s. f (suc s)) (λ s. g (suc s)))

pub upto_none : (n : ℕ) → upto n (λ s. 0) ≡ 0
upto_none zero = refl
upto_none (suc n) = omega (arith, upto_none n)

-- the sum of a list is that of its items, and of nothing after them
pub upto_items : (n : ℕ) (xs : List ℕ) → length xs ≤ n → upto n (λ s. slice_index_or xs s 0) ≡ sum xs
upto_items n [] h = upto_none n
upto_items zero (x ∷ xs) h = absurd (omega (arith, h))
upto_items (suc n) (x ∷ xs) h =
    omega (arith, upto_items n xs (omega (arith, h)), sum_by-cons (λ k. k) x xs)

-- as many at least, where each is at least one
pub upto_some : (n : ℕ) (f : ℕ → ℕ) → ((s : ℕ) → s < n → 1 ≤ f s) → n ≤ upto n f
upto_some zero f h = omega arith
upto_some (suc n) f h = omega (arith, h 0 (omega arith), upto_some n (λ s. f (suc s)) (λ s lt. h (suc s) (omega (arith, lt))))

-- as many at most, where each is at most one
pub upto_few : (n : ℕ) (f : ℕ → ℕ) → ((s : ℕ) → f s ≤ 1) → upto n f ≤ n
upto_few zero f h = omega arith
upto_few (suc n) f h = omega (arith, h 0, upto_few n (λ s. f (suc s)) (λ s. h (suc s)))

-- one of them is no more than all
pub upto_one : (n k : ℕ) (f : ℕ → ℕ) → k < n → f k ≤ upto n f
upto_one zero k f h = absurd (omega (arith, h))
upto_one (suc n) zero f h = omega arith
upto_one (suc n) (suc k) f h = let rest = upto_one n k (λ s. f (suc s)) (omega (arith, h)) in omega (arith, rest)

-- the order of two sums is no matter
pub upto_swap : (n m : ℕ) (f : ℕ → ℕ → ℕ) → upto n (λ s. upto m (f s)) ≡ upto m (λ t. upto n (λ s. f s t))
upto_swap zero m f = sym (upto_none m)
upto_swap (suc n) m f =
    omega (arith, upto_swap n m (λ s. f (suc s)), upto_both m (f 0) (λ t. upto n (λ s. f (suc s) t)))

-- sums over the first numbers of sums over a list
pub exchanged : {X : Type 0} (n : ℕ) (f : ℕ → X → ℕ) (xs : List X) → upto n (λ s. sum_by (f s) xs) ≡ sum_by (λ x. upto n (λ s. f s x)) xs
exchanged n f [] = upto_none n
exchanged n f (x ∷ xs) =
    upto_same n (λ s. sum_by (f s) (x ∷ xs)) (λ s. f s x + sum_by (f s) xs) (λ s. sum_by-cons (f s) x xs)
    ∙ omega (arith, upto_both n (λ s. f s x) (λ s. sum_by (f s) xs), exchanged n f xs, sum_by-cons (λ y. upto n (λ s. f s y)) x xs)

-- ---- one number among those from another on

abbrev pub bit : ℕ → ℕ → ℕ
bit k m = cond (k == m) 1 0

pub bit_same : (k m : ℕ) → k ≡ m → bit k m ≡ 1
bit_same k m e = ap (λ (b : Bool). cond b 1 0) (eq-eqb k m e)

pub bit_other : (k m : ℕ) → (k ≡ m → ⊥) → bit k m ≡ 0
bit_other k m h = ap (λ (b : Bool). cond b 1 0) (ne_eqb k m h)

pub shifted : (n k b : ℕ) → upto n (λ s. bit k (b + suc s)) ≡ upto n (λ s. bit k (suc b + s))
shifted n k b = upto_same n (λ s. bit k (b + suc s)) (λ s. bit k (suc b + s))
    (λ s. let e : b + suc s ≡ suc b + s = omega arith in ap (bit k) e)

pub none_hit : (n k b : ℕ) → k < b → upto n (λ s. bit k (b + s)) ≡ 0
none_hit zero k b h = refl
none_hit (suc n) k b h =
    let here : bit k (b + 0) ≡ 0 = bit_other k (b + 0) (λ e. omega (arith, e, h)) in
    let there : upto n (λ s. bit k (suc b + s)) ≡ 0 = none_hit n k (suc b) (omega (arith, h)) in
    omega (arith, here, there, shifted n k b)

-- it is hit once, if it is one of them
pub hits : (n k b : ℕ) → (upto n (λ s. bit k (b + s)) ≤ 1) × (b ≤ k → k < b + n → upto n (λ s. bit k (b + s)) ≡ 1)
hits zero k b = (omega arith, λ low high. absurd (omega (arith, low, high)))
hits (suc n) k b = elim (eqb_tells k b) [
  | inl t ↦ (let e : k ≡ b = t.1 in
      let here : bit k (b + 0) ≡ 1 = bit_same k (b + 0) (omega (arith, e)) in
      let there : upto n (λ s. bit k (suc b + s)) ≡ 0 = none_hit n k (suc b) (omega (arith, e)) in
      (omega (arith, here, there, shifted n k b), λ low high. omega (arith, here, there, shifted n k b)))
  | inr t ↦ (let apart : k ≡ b → ⊥ = t.1 in
      let here : bit k (b + 0) ≡ 0 = bit_other k (b + 0) (λ e. apart (omega (arith, e))) in
      let later = hits n k (suc b) in (
        let most = later.0 in omega (arith, here, most, shifted n k b),
        λ low high. let there : upto n (λ s. bit k (suc b + s)) ≡ 1 = later.1 (past low apart) (omega (arith, high)) in
            omega (arith, here, there, shifted n k b),
      ))
]
  where
    past : b ≤ k → (k ≡ b → ⊥) → suc b ≤ k
    past low apart = elim (leb_tells (suc b) k) [
      | inl u ↦ u.1
      | inr u ↦ absurd (apart (let lt : k < suc b = u.1 in omega (arith, low, lt)))
    ]
