-- The spare numbers of some names: there are as many as names at least, each once, and no name that is kept is one.
use Rattle.std.proofs.Common.{◌≡◌, ℕ, zero, suc, ◌+◌, ◌<◌, ◌≤◌, ◌==◌, Bool, true, false, not, cond, List, [], ◌∷◌, length, filter, get_or, inl, inr, refl, arith}
use Rattle.std.specs.List.{range_with_len, AllByRecursion}
use Rattle.std.proofs.lemmas.Bool.{and_parts, cases_eq, eq-eqb, false≢true, leb-true, ne_eqb, not-true}
use Rattle.std.proofs.lemmas.List.Filters.{length-filter_both}
use Rattle.std.proofs.lemmas.List.FromFn.{length-range_with_len}
use Rattle.ic_term.specs.Configuration.{occurrences}
use Rattle.ic_rules.specs.Renaming.{number_among}
use Rattle.ic_rules.specs.lemmas.Spared.{spared_placed}
use Rattle.ic_text.specs.declared.limits.TheConstants.{MAX_NAME}
use Rattle.ic_naming.specs.Naming.{is_counted_kept, is_kept, spare_numbers}
use Rattle.ic_naming.specs.lemmas.Occurring.{occurrences-cons}

-- ---- a name that is kept

pub kept_there : (names : List ℕ) (n : ℕ) → is_kept names n ≡ true → 1 ≤ occurrences n names
kept_there names n kept = by_count (occurrences n names) kept
  where
    by_count : (times : ℕ) → is_counted_kept times n ≡ true → 1 ≤ times
    by_count zero it = absurd (false≢true it)
    by_count (suc times) it = omega arith

pub kept_low : (names : List ℕ) (n : ℕ) → is_kept names n ≡ true → n ≤ MAX_NAME
kept_low names n kept = leb-true n MAX_NAME (and_parts _ _ kept).1

-- ---- how many of these numbers are kept

-- how often a name occurs among numbers, and how often names do
abbrev hits : ℕ → List ℕ → ℕ
hits n [] = 0
hits n (m ∷ ms) = cond (n == m) 1 0 + hits n ms

abbrev total : List ℕ → List ℕ → ℕ
total ns [] = 0
total ns (m ∷ ms) = occurrences m ns + total ns ms

total_none : (ms : List ℕ) → total [] ms ≡ 0
total_none [] = refl
total_none (m ∷ ms) = omega (arith, total_none ms)

total_cons : (n : ℕ) (ns ms : List ℕ) → total (n ∷ ns) ms ≡ hits n ms + total ns ms
total_cons n ns [] = refl
total_cons n ns (m ∷ ms) = omega (arith, occurrences-cons m n ns, total_cons n ns ms)

hits_below : (n a k : ℕ) → n < a → hits n (range_with_len a k) ≡ 0
hits_below n a zero less = refl
hits_below n a (suc k) less =
    let apart : (n == a) ≡ false = ne_eqb n a (λ same. omega (arith, less, same)) in
    rw apart (omega (arith, hits_below n (a + 1) k (omega (arith, less))))

hits_once : (n a k : ℕ) → hits n (range_with_len a k) ≤ 1
hits_once n a zero = omega arith
hits_once n a (suc k) = elim (cases_eq n a) [
  | inl same ↦ let here : (n == a) ≡ true = eq-eqb n a same in rw here (omega (arith, hits_below n (a + 1) k (omega (arith, same))))
  | inr differ ↦ let apart : (n == a) ≡ false = ne_eqb n a differ in rw apart (omega (arith, hits_once n (a + 1) k))
]

total_within : (ns : List ℕ) (a k : ℕ) → total ns (range_with_len a k) ≤ length ns
total_within [] a k = omega (arith, total_none (range_with_len a k))
total_within (n ∷ ns) a k = omega (arith, total_cons n ns (range_with_len a k), hits_once n a k, total_within ns a k)

kept_within : (names ms : List ℕ) → length (filter (is_kept names) ms) ≤ total names ms
kept_within names [] = omega arith
kept_within names (m ∷ ms) = by_test (is_kept names m) refl (kept_within names ms)
  where
    by_test : (b : Bool) → is_kept names m ≡ b → length (filter (is_kept names) ms) ≤ total names ms
        → length (cond b (m ∷ filter (is_kept names) ms) (filter (is_kept names) ms)) ≤ occurrences m names + total names ms
    by_test true kept rest = omega (arith, kept_there names m kept, rest)
    by_test false not_kept rest = omega (arith, rest)

-- there are as many spare numbers as names
pub spares_suffice : (names : List ℕ) → length names ≤ length (spare_numbers names)
spares_suffice names =
    let all = range_with_len 0 (length names + length names) in
    omega (
      arith,
      length-filter_both (is_kept names) (λ n. not (is_kept names n)) (λ n. refl) all,
      kept_within names all,
      total_within names 0 (length names + length names),
      length-range_with_len 0 (length names + length names),
    )

-- ---- each stands once

pub spare_placed : (names : List ℕ) (k : ℕ) → k < length (spare_numbers names) → number_among (spare_numbers names) (get_or (spare_numbers names) k 0) ≡ k
spare_placed names k less = spared_placed (is_kept names) (length names + length names) k less

-- ---- each is low, and no kept name

each_at : (P : ℕ → Type 0) (xs : List ℕ) (k : ℕ) → AllByRecursion P xs → k < length xs → P (get_or xs k 0)
each_at P [] k all less = absurd (omega (arith, less))
each_at P (x ∷ xs) zero all less = all.0
each_at P (x ∷ xs) (suc k) all less = each_at P xs k all.1 (omega (arith, less))

range_below : (a k top : ℕ) → a + k ≤ top → AllByRecursion (λ n. n < top) (range_with_len a k)
range_below a zero top fits = tt
range_below a (suc k) top fits = (omega (arith, fits), range_below (a + 1) k top (omega (arith, fits)))

filter_each : (p : ℕ → Bool) (P : ℕ → Type 0) (xs : List ℕ) → AllByRecursion P xs → AllByRecursion (λ n. P n × (p n ≡ true)) (filter p xs)
filter_each p P [] all = tt
filter_each p P (x ∷ xs) all = by_test (p x) refl (filter_each p P xs all.1)
  where
    by_test : (b : Bool) → p x ≡ b → AllByRecursion (λ n. P n × (p n ≡ true)) (filter p xs) → AllByRecursion (λ n. P n × (p n ≡ true)) (cond b (x ∷ filter p xs) (filter p xs))
    by_test true is rest = ((all.0, is), rest)
    by_test false is rest = rest

pub spare_is : (names : List ℕ) (k : ℕ) → k < length (spare_numbers names)
    → (get_or (spare_numbers names) k 0 < length names + length names) × (is_kept names (get_or (spare_numbers names) k 0) ≡ false)
spare_is names k less =
    let top = length names + length names in
    let at = each_at (λ n. (n < top) × (not (is_kept names n) ≡ true)) (spare_numbers names) k
    (filter_each (λ n. not (is_kept names n)) (λ n. n < top) (range_with_len 0 top) (range_below 0 top top (omega arith))) less in
    (at.0, not-true (is_kept names (get_or (spare_numbers names) k 0)) at.1)
