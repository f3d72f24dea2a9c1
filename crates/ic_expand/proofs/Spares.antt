-- The spare numbers of names: as many as there are long names at least, each once, and no name of the text has one.
use Rattle.std.proofs.Common.{◌≡◌, ℕ, zero, suc, ◌+◌, ◌<◌, ◌≤◌, ◌==◌, ◌||◌, Bool, true, false, not, cond, List, [], ◌∷◌, ◌++◌, length, filter, get_or, refl, sym, ap, ◌∙◌, arith, add-one}
use Rattle.std.specs.List.{range_with_len, position_or_len}
use Rattle.std.specs.Str.{bytes_eq}
use Rattle.std.proofs.lemmas.List.Filters.{length-filter_both}
use Rattle.std.proofs.lemmas.List.FromFn.{length-range_with_len}
use Rattle.std.proofs.lemmas.Slice.Eq.{bytes_eq-Decides}
use Rattle.ic_text.specs.Name.{name_number, name_text}
use Rattle.ic_text.specs.lemmas.NameLemmas.{name_number-name_text}
use Rattle.ic_expand.specs.Names.{is_among, spare_numbers, spare_of}
use Rattle.ic_rules.specs.lemmas.Spared.{range_more, spared_placed}

-- ---- how many of these numbers are taken

none_above : (p : ℕ → Bool) (c a n : ℕ) → ((k : ℕ) → p k ≡ true → k ≡ c) → c < a → length (filter p (range_with_len a n)) ≡ 0
none_above p c a zero one less = refl
none_above p c a (suc n) one less = by_test (p a) refl (none_above p c (a + 1) n one (omega (arith, less)))
  where
    by_test : (b : Bool) → p a ≡ b → length (filter p (range_with_len (a + 1) n)) ≡ 0
        → length (cond b (a ∷ filter p (range_with_len (a + 1) n)) (filter p (range_with_len (a + 1) n))) ≡ 0
    by_test true is rest = absurd (omega (arith, one a is, less))
    by_test false is rest = rest

one_at_most : (p : ℕ → Bool) (c a n : ℕ) → ((k : ℕ) → p k ≡ true → k ≡ c) → length (filter p (range_with_len a n)) ≤ 1
one_at_most p c a zero one = omega arith
one_at_most p c a (suc n) one = by_test (p a) refl (one_at_most p c (a + 1) n one)
  where
    by_test : (b : Bool) → p a ≡ b → length (filter p (range_with_len (a + 1) n)) ≤ 1
        → length (cond b (a ∷ filter p (range_with_len (a + 1) n)) (filter p (range_with_len (a + 1) n))) ≤ 1
    by_test true is rest = omega (arith, none_above p c (a + 1) n one (omega (arith, one a is)))
    by_test false is rest = rest

-- a number that is one of two kinds
filter-or : (p q : ℕ → Bool) (ms : List ℕ) → length (filter (λ k. p k || q k) ms) ≤ length (filter p ms) + length (filter q ms)
filter-or p q [] = omega arith
filter-or p q (m ∷ ms) = by_tests (p m) (q m) (filter p ms) (filter q ms) (filter (λ k. p k || q k) ms) (filter-or p q ms)
  where
    by_tests : (a b : Bool) (xs ys zs : List ℕ) → length zs ≤ length xs + length ys → length (cond (a || b) (m ∷ zs) zs) ≤ length (cond a (m ∷ xs) xs) + length (cond b (m ∷ ys) ys)
    by_tests true true xs ys zs less = omega (arith, less)
    by_tests false false xs ys zs less = less
    by_tests _ _ xs ys zs less = omega (arith, less)

none_of : (ms : List ℕ) → filter (λ k. is_among (name_text k) []) ms ≡ []
none_of [] = refl
none_of (m ∷ ms) = none_of ms

numbered_so : (s : List ℕ) (k : ℕ) → bytes_eq (name_text k) s ≡ true → k ≡ name_number s
numbered_so s k is = sym (name_number-name_text k) ∙ ap name_number ((bytes_eq-Decides (name_text k) s).0 is)

taken_within : (shorts : List (List ℕ)) (a n : ℕ) → length (filter (λ k. is_among (name_text k) shorts) (range_with_len a n)) ≤ length shorts
taken_within [] a n = omega (arith, ap (λ (ms : List ℕ). length ms) (none_of (range_with_len a n)))
taken_within (s ∷ ss) a n = omega (
  arith,
  filter-or (λ k. bytes_eq (name_text k) s) (λ k. is_among (name_text k) ss) (range_with_len a n),
  one_at_most (λ k. bytes_eq (name_text k) s) (name_number s) a n (numbered_so s),
  taken_within ss a n,
)

-- there are as many spare numbers as long names
pub spares_suffice : (shorts longs : List (List ℕ)) → length longs ≤ length (spare_of shorts longs)
spares_suffice shorts longs =
    let all = range_with_len 0 (length shorts + length longs) in
    omega (
      arith,
      length-filter_both (λ k. is_among (name_text k) shorts) (λ k. not (is_among (name_text k) shorts)) (λ k. refl) all,
      taken_within shorts 0 (length shorts + length longs),
      length-range_with_len 0 (length shorts + length longs),
    )

-- ---- they are made one after another

pub range_more_0 : (n : ℕ) → range_with_len 0 (n + 1) ≡ range_with_len 0 n ++ n ∷ []
range_more_0 n = ap (λ (k : ℕ). range_with_len 0 k) (add-one n) ∙ range_more 0 n n (omega arith)

pub range_next : (a n : ℕ) → range_with_len a (n + 1) ≡ range_with_len a n ++ (a + n) ∷ []
range_next a n = ap (λ (k : ℕ). range_with_len a k) (add-one n) ∙ range_more a n (a + n) refl

-- each spare number is found at its place
pub spare_placed : (shorts : List (List ℕ)) (n k : ℕ) → k < length (spare_numbers shorts n)
    → position_or_len (λ m. get_or (spare_numbers shorts n) k 0 == m) (spare_numbers shorts n) ≡ k
spare_placed shorts n k less = spared_placed (λ m. is_among (name_text m) shorts) n k less

-- ---- no name of the text has one

free_at : (p : ℕ → Bool) (xs : List ℕ) (k : ℕ) → k < length (filter (λ m. not (p m)) xs) → p (get_or (filter (λ m. not (p m)) xs) k 0) ≡ false
free_at p [] k less = absurd (omega (arith, less))
free_at p (x ∷ xs) k less = by_test (p x) refl k less (λ j there. free_at p xs j there)
  where
    by_test : (b : Bool) → p x ≡ b → (j : ℕ) → j < length (cond (not b) (x ∷ filter (λ m. not (p m)) xs) (filter (λ m. not (p m)) xs))
        → ((i : ℕ) → i < length (filter (λ m. not (p m)) xs) → p (get_or (filter (λ m. not (p m)) xs) i 0) ≡ false)
        → p (get_or (cond (not b) (x ∷ filter (λ m. not (p m)) xs) (filter (λ m. not (p m)) xs)) j 0) ≡ false
    by_test true is j there later = later j there
    by_test false is zero there later = is
    by_test false is (suc j) there later = later j (omega (arith, there))

pub spare_free : (shorts : List (List ℕ)) (n k : ℕ) → k < length (spare_numbers shorts n)
    → is_among (name_text (get_or (spare_numbers shorts n) k 0)) shorts ≡ false
spare_free shorts n k less = free_at (λ m. is_among (name_text m) shorts) (range_with_len 0 n) k less
