-- Lemmas: a renaming of all numbers below a bound to numbers far above it, but for some that are kept.
use Rattle.std.proofs.Common.{◌≡◌, ℕ, ◌+◌, ◌≤◌, ◌<◌, Bool, true, false, cond, refl, sym, ap, ◌∙◌, arith}
use Rattle.ic_reaching.proofs.Exchanges.{Apart, Disjoint, exchanged, to_other, stays, there_and_back}

-- what is exchanged: a number below the bound for one above it, and one that is kept for none of these
abbrev pub near : (ℕ → Bool) → ℕ → ℕ → ℕ
near keeps bound k = cond (keeps k) (bound + bound + k) k

abbrev pub distant : (ℕ → Bool) → ℕ → ℕ → ℕ
distant keeps bound k = cond (keeps k) (bound + bound + bound + k) (bound + k)

abbrev pub far : (ℕ → Bool) → ℕ → ℕ → ℕ
far keeps bound = exchanged (near keeps bound) (distant keeps bound) bound

-- above all that are exchanged
abbrev pub top_of : ℕ → ℕ
top_of bound = bound + bound + bound + bound

near_is : (keeps : ℕ → Bool) (bound k : ℕ) (b : Bool) → keeps k ≡ b → near keeps bound k ≡ cond b (bound + bound + k) k
near_is keeps bound k b e = ap (λ a. cond a (bound + bound + k) k) e

distant_is : (keeps : ℕ → Bool) (bound k : ℕ) (b : Bool) → keeps k ≡ b → distant keeps bound k ≡ cond b (bound + bound + bound + k) (bound + k)
distant_is keeps bound k b e = ap (λ a. cond a (bound + bound + bound + k) (bound + k)) e

near_apart : (keeps : ℕ → Bool) (bound : ℕ) → Apart bound (near keeps bound)
near_apart keeps bound j k low less same = at (keeps j) (keeps k) refl refl
  where
    at : (a b : Bool) → keeps j ≡ a → keeps k ≡ b → j ≡ k
    at true true e f = let one = near_is keeps bound j true e in let other = near_is keeps bound k true f in omega (arith, one, other, same)
    at true false e f = let one = near_is keeps bound j true e in let other = near_is keeps bound k false f in absurd (omega (arith, one, other, same, less))
    at false true e f = let one = near_is keeps bound j false e in let other = near_is keeps bound k true f in absurd (omega (arith, one, other, same, low))
    at false false e f = let one = near_is keeps bound j false e in let other = near_is keeps bound k false f in omega (arith, one, other, same)

distant_apart : (keeps : ℕ → Bool) (bound : ℕ) → Apart bound (distant keeps bound)
distant_apart keeps bound j k low less same = at (keeps j) (keeps k) refl refl
  where
    at : (a b : Bool) → keeps j ≡ a → keeps k ≡ b → j ≡ k
    at true true e f = let one = distant_is keeps bound j true e in let other = distant_is keeps bound k true f in omega (arith, one, other, same)
    at true false e f = let one = distant_is keeps bound j true e in let other = distant_is keeps bound k false f in absurd (omega (arith, one, other, same, less))
    at false true e f = let one = distant_is keeps bound j false e in let other = distant_is keeps bound k true f in absurd (omega (arith, one, other, same, low))
    at false false e f = let one = distant_is keeps bound j false e in let other = distant_is keeps bound k false f in omega (arith, one, other, same)

never_both : (keeps : ℕ → Bool) (bound : ℕ) → Disjoint bound (near keeps bound) (distant keeps bound)
never_both keeps bound j k low less same = at (keeps j) (keeps k) refl refl
  where
    at : (a b : Bool) → keeps j ≡ a → keeps k ≡ b → ⊥
    at true true e f = let one = near_is keeps bound j true e in let other = distant_is keeps bound k true f in omega (arith, one, other, same, low)
    at true false e f = let one = near_is keeps bound j true e in let other = distant_is keeps bound k false f in omega (arith, one, other, same, less)
    at false true e f = let one = near_is keeps bound j false e in let other = distant_is keeps bound k true f in omega (arith, one, other, same, low)
    at false false e f = let one = near_is keeps bound j false e in let other = distant_is keeps bound k false f in omega (arith, one, other, same, low)

pub far_back : (keeps : ℕ → Bool) (bound n : ℕ) → far keeps bound (far keeps bound n) ≡ n
far_back keeps bound n = there_and_back (near keeps bound) (distant keeps bound) bound (near_apart keeps bound) (distant_apart keeps bound) (never_both keeps bound) n

pub far_keeps : (keeps : ℕ → Bool) (bound n : ℕ) → n < bound → keeps n ≡ true → far keeps bound n ≡ n
far_keeps keeps bound n low kept = stays (near keeps bound) (distant keeps bound) bound n
    (λ k less same. no_near k less same (keeps k) refl) (λ k less same. no_distant k less same (keeps k) refl)
  where
    no_near : (k : ℕ) → k < bound → near keeps bound k ≡ n → (b : Bool) → keeps k ≡ b → ⊥
    no_near k less same true e = let is = near_is keeps bound k true e in omega (arith, is, same, low)
    no_near k less same false e =
        let is = near_is keeps bound k false e in
        let equal : k ≡ n = omega (arith, is, same) in
        let bad : true ≡ false = sym kept ∙ (ap keeps (sym equal) ∙ e) in cc

    no_distant : (k : ℕ) → k < bound → distant keeps bound k ≡ n → (b : Bool) → keeps k ≡ b → ⊥
    no_distant k less same true e = let is = distant_is keeps bound k true e in omega (arith, is, same, low)
    no_distant k less same false e = let is = distant_is keeps bound k false e in omega (arith, is, same, low)

pub far_moves : (keeps : ℕ → Bool) (bound n : ℕ) → n < bound → keeps n ≡ false → far keeps bound n ≡ bound + n
far_moves keeps bound n low moved =
    ap (far keeps bound) (sym (near_is keeps bound n false moved))
    ∙ (to_other (near keeps bound) (distant keeps bound) bound n (near_apart keeps bound) low ∙ distant_is keeps bound n false moved)

pub far_above : (keeps : ℕ → Bool) (bound n : ℕ) → top_of bound ≤ n → far keeps bound n ≡ n
far_above keeps bound n high = stays (near keeps bound) (distant keeps bound) bound n
    (λ k less same. no_near k less same (keeps k) refl) (λ k less same. no_distant k less same (keeps k) refl)
  where
    no_near : (k : ℕ) → k < bound → near keeps bound k ≡ n → (b : Bool) → keeps k ≡ b → ⊥
    no_near k less same true e = let is = near_is keeps bound k true e in omega (arith, is, same, less, high)
    no_near k less same false e = let is = near_is keeps bound k false e in omega (arith, is, same, less, high)

    no_distant : (k : ℕ) → k < bound → distant keeps bound k ≡ n → (b : Bool) → keeps k ≡ b → ⊥
    no_distant k less same true e = let is = distant_is keeps bound k true e in omega (arith, is, same, less, high)
    no_distant k less same false e = let is = distant_is keeps bound k false e in omega (arith, is, same, less, high)
