-- A list that is parted at two of its names.
use Rattle.std.proofs.Common.{◌≡◌, ◌⊎◌, inl, inr, ℕ, ◌+◌, ◌≤◌, ◌==◌, List, [], ◌∷◌, ◌++◌, refl, sym, ◌∙◌, ap, cond, arith, subst}
use Rattle.std.specs.Cmp.{unsigned_Decides}
use Rattle.std.proofs.lemmas.List.Sums.{sum_by-append}
use Rattle.ic_term.specs.Configuration.{occurrences, IsFirstThird}

-- the first of two lists ends before the second, with this name next
abbrev Before : List ℕ → ℕ → List ℕ → Type 0
Before xs n ys = (zs : List ℕ) × (ys ≡ xs ++ n ∷ zs)

-- one list is parted at a name in two ways
abbrev Parted : List ℕ → List ℕ → ℕ → ℕ → List ℕ → List ℕ → Type 0
Parted xs ys n m us vs = ((n ≡ m) × (xs ≡ ys) × (us ≡ vs)) ⊎ (Before xs n ys ⊎ Before ys m xs)

further : (x : ℕ) (xs ys : List ℕ) (n m : ℕ) (us vs : List ℕ) → Parted xs ys n m us vs → Parted (x ∷ xs) (x ∷ ys) n m us vs
further x xs ys n m us vs (inl same) = inl (same.0, ap (λ l. x ∷ l) same.1, same.2)
further x xs ys n m us vs (inr (inl first)) = inr (inl (first.0, ap (λ l. x ∷ l) first.1))
further x xs ys n m us vs (inr (inr second)) = inr (inr (second.0, ap (λ l. x ∷ l) second.1))

parted : (xs ys : List ℕ) (n m : ℕ) (us vs : List ℕ) → xs ++ n ∷ us ≡ ys ++ m ∷ vs → Parted xs ys n m us vs
parted [] [] n m us vs same = inl ((let e = same in cc), refl, (let e = same in cc))
parted [] (y ∷ ys) n m us vs same = inr (inl (ys, ap (λ k. k ∷ ys) (let e : y ≡ n = (let s = sym same in cc) in e)))
parted (x ∷ xs) [] n m us vs same = inr (inr (xs, ap (λ k. k ∷ xs) (let e : x ≡ m = (let s = same in cc) in e)))
parted (x ∷ xs) (y ∷ ys) n m us vs same =
    let head : x ≡ y = cc in
    let tail : xs ++ n ∷ us ≡ ys ++ m ∷ vs = cc in
    subst (λ k. Parted (x ∷ xs) (k ∷ ys) n m us vs) head (further x xs ys n m us vs (parted xs ys n m us vs tail))

-- a name that stood there twice stands there for the third time
thrice : (n : ℕ) (xs ys : List ℕ) → occurrences n xs ≡ 2 → Before xs n ys → occurrences n ys ≤ 2 → ⊥
thrice n xs ys twice (zs, is) few =
    let all : occurrences n ys ≡ occurrences n (xs ++ n ∷ zs) = ap (occurrences n) is in
    let split = sum_by-append (λ m. cond (m == n) 1 0) xs (n ∷ zs) in
    let more = sum_by-append (λ m. cond (m == n) 1 0) (n ∷ []) zs in
    let one : occurrences n (n ∷ []) ≡ 1 = ap (λ b. 0 + cond b 1 0) ((unsigned_Decides n n).1 refl) in
    omega (arith, all, split, more, one)

pub one_third : (n m : ℕ) (ns before after front rest : List ℕ) → IsFirstThird n ns before after → IsFirstThird m ns front rest
    → (n ≡ m) × (before ≡ front) × (after ≡ rest)
one_third n m ns before after front rest first second = at (parted before front n m after rest (sym first.parts ∙ second.parts))
  where
    at : Parted before front n m after rest → (n ≡ m) × (before ≡ front) × (after ≡ rest)
    at (inl same) = same
    at (inr (inl earlier)) = absurd (thrice n before front first.twice_before earlier (second.none_earlier n))
    at (inr (inr later)) = absurd (thrice m front before second.twice_before later (first.none_earlier m))
