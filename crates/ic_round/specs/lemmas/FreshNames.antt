-- Lists of names: those of a rule's copy occur at most twice, from its base on and below its base
-- and name count.
use Rattle.std.proofs.Common.{◌≡◌, ℕ, zero, suc, ◌&&◌, ◌+◌, ◌-◌, ◌≤◌, ◌<◌, ◌==◌, List, [], ◌∷◌, Bool, true, false, ◌||◌, cond, map, refl, sym, ap, ◌∙◌, arith, inl, inr, subst}
use Rattle.std.proofs.lemmas.Bool.{cases_lt}
use Rattle.std.specs.Cmp.{unsigned_Decides}
use Rattle.std.specs.List.{AllByRecursion, list_all, list_any, range_with_len}
use Rattle.std.proofs.lemmas.List.Sums.{sum_by-cons}
use Rattle.ic_term.specs.Configuration.{occurrences}
use Rattle.ic_rules.specs.Renaming.{are_paired, first_occurrences}
use Rattle.ic_rules.specs.Rule.{Rule, IsRule, rule_names}
use Rattle.ic_rules.specs.lemmas.NumberingLaws.{each_among, Among}
use Rattle.ic_settle.specs.Settling.{occurs}
use Rattle.ic_settle.specs.lemmas.SubstitutionLaws.{occurrences_none}

pub occurrences-cons : (n m : ℕ) (ms : List ℕ) → occurrences n (m ∷ ms) ≡ cond (m == n) 1 0 + occurrences n ms
occurrences-cons n m ms = sum_by-cons _ m ms

apart_or : (m n : ℕ) (b : Bool) → (m == n) ≡ b → (m ≡ n → ⊥) → (m == n) ≡ false
apart_or m n true e apart = absurd (apart ((unsigned_Decides m n).0 e))
apart_or m n false e apart = e

pub apart_false : (m n : ℕ) → (m ≡ n → ⊥) → (m == n) ≡ false
apart_false m n apart = apart_or m n (m == n) refl apart

-- a name below or above all names of a list doesn't occur there
pub absent_below : (n base : ℕ) (ms : List ℕ) → AllByRecursion (λ m. base ≤ m) ms → n < base → occurrences n ms ≡ 0
absent_below n base [] all low = refl
absent_below n base (m ∷ ms) all low =
    let above = all.0 in
    let other = apart_false m n (λ e. omega arith) in
    rw (occurrences-cons n m ms, other) (omega (arith, absent_below n base ms all.1 low))

pub absent_above : (n top : ℕ) (ms : List ℕ) → AllByRecursion (λ m. m < top) ms → top ≤ n → occurrences n ms ≡ 0
absent_above n top [] all high = refl
absent_above n top (m ∷ ms) all high =
    let below = all.0 in
    let other = apart_false m n (λ e. omega arith) in
    rw (occurrences-cons n m ms, other) (omega (arith, absent_above n top ms all.1 high))

same_shift : (base m n : ℕ) (b c : Bool) → (base + m == base + n) ≡ b → (m == n) ≡ c → b ≡ c
same_shift base m n true false e f =
    let equal = (unsigned_Decides (base + m) (base + n)).0 e in
    let same : m ≡ n = omega arith in
    let yes = (unsigned_Decides m n).1 same in cc
same_shift base m n false true e f =
    let same = (unsigned_Decides m n).0 f in
    let yes = (unsigned_Decides (base + m) (base + n)).1 (ap (λ k. base + k) same) in cc
same_shift base m n _ _ e f = refl

-- a shifted name occurs in the shifted list as often as before
pub occurrences-shift : (base n : ℕ) (ms : List ℕ) → occurrences (base + n) (map (λ k. base + k) ms) ≡ occurrences n ms
occurrences-shift base n [] = refl
occurrences-shift base n (m ∷ ms) =
    let here = same_shift base m n (base + m == base + n) (m == n) refl refl in
    rw (occurrences-cons (base + n) (base + m) (map (λ k. base + k) ms), occurrences-cons n m ms, here, occurrences-shift base n ms) refl

pub from_base : (base : ℕ) (ms : List ℕ) → AllByRecursion (λ m. base ≤ m) (map (λ k. base + k) ms)
from_base base [] = tt
from_base base (m ∷ ms) = ((let h : base ≤ base + m = omega arith in h), from_base base ms)

pub below_top : (base count : ℕ) (ms : List ℕ) → AllByRecursion (λ m. m < count) ms → AllByRecursion (λ m. m < base + count) (map (λ k. base + k) ms)
below_top base count [] all = tt
below_top base count (m ∷ ms) all = ((let low = all.0 in let h : base + m < base + count = omega arith in h), below_top base count ms all.1)

-- ---- the names of a rule

paired_there : (n : ℕ) (all ns : List ℕ) → list_all (λ m. occurrences m all == 2) ns ≡ true → occurs n ns ≡ true → occurrences n all ≡ 2
paired_there n all [] paired there = cc
paired_there n all (m ∷ ns) paired there = at (occurrences m all == 2) (m == n) refl refl paired there (paired_there n all ns)
  where
    at : (b c : Bool) → (occurrences m all == 2) ≡ b → (m == n) ≡ c → ((occurrences m all == 2) && list_all (λ k. occurrences k all == 2) ns) ≡ true
        → ((m == n) || occurs n ns) ≡ true → (list_all (λ k. occurrences k all == 2) ns ≡ true → occurs n ns ≡ true → occurrences n all ≡ 2) → occurrences n all ≡ 2
    at false c e f p t rest = let bad = rw e at p in cc
    at true true e f p t rest = let same = (unsigned_Decides m n).0 f in let two = (unsigned_Decides (occurrences m all) 2).0 e in ap (λ k. occurrences k all) (sym same) ∙ two
    at true false e f p t rest =
        let paired : list_all (λ k. occurrences k all == 2) ns ≡ true = rw e at p in
        let there : occurs n ns ≡ true = rw f at t in
        rest paired there

pub paired_twice : (ns : List ℕ) → are_paired ns ≡ true → (n : ℕ) → occurrences n ns ≤ 2
paired_twice ns paired n = at (occurs n ns) refl
  where
    at : (b : Bool) → occurs n ns ≡ b → occurrences n ns ≤ 2
    at true e = let two = paired_there n ns ns paired e in omega arith
    at false e = let none = occurrences_none n ns e in omega arith

in_range : (m a k : ℕ) → list_any (λ n. m == n) (range_with_len a k) ≡ true → m < a + k
in_range m a zero there = cc
in_range m a (suc k) there = at (m == a) refl (in_range m (a + 1) k)
  where
    at : (b : Bool) → (m == a) ≡ b → (list_any (λ n. m == n) (range_with_len (a + 1) k) ≡ true → m < a + 1 + k) → m < a + suc k
    at true e rest = let same = (unsigned_Decides m a).0 e in omega arith
    at false e rest = let later : list_any (λ n. m == n) (range_with_len (a + 1) k) ≡ true = rw e at there in let low = rest later in omega arith

all_below : (firsts : List ℕ) (k : ℕ) (ns : List ℕ) → firsts ≡ range_with_len 0 k → Among firsts ns → AllByRecursion (λ n. n < k) ns
all_below firsts k [] is among = tt
all_below firsts k (n ∷ ns) is among =
    ((let low = in_range n 0 k (rw is at among.0) in let h : n < k = omega arith in h), all_below firsts k ns is among.1)

-- its names are below their count, and each occurs there at most twice
pub rule_below : (r : Rule) → IsRule r → AllByRecursion (λ n. n < r.names) (rule_names r)
rule_below r is = all_below (first_occurrences (rule_names r)) r.names (rule_names r) is.in_order (each_among [] (rule_names r))

pub rule_twice : (r : Rule) → IsRule r → (n : ℕ) → occurrences n (rule_names r) ≤ 2
rule_twice r is = paired_twice (rule_names r) is.paired

-- ---- the names of its copy

pub copy_twice : (base n : ℕ) (ns : List ℕ) → ((m : ℕ) → occurrences m ns ≤ 2) → occurrences n (map (λ k. base + k) ns) ≤ 2
copy_twice base n ns twice = elim (cases_lt n base) [
  | inl low ↦ let none = absent_below n base (map (λ k. base + k) ns) (from_base base ns) low in omega arith
  | inr high ↦
      let split : base + (n - base) ≡ n = omega arith in
      let same = occurrences-shift base (n - base) ns in
      let bound = twice (n - base) in
      let few : occurrences (base + (n - base)) (map (λ k. base + k) ns) ≤ 2 = omega arith in
      subst (λ m. occurrences m (map (λ k. base + k) ns) ≤ 2) split few
]
