-- Lemmas, which a reader of the contracts doesn't need: names numbered by first occurrence have 0, 1, .. in the
-- order of their first occurrences. A name occurs as often as its number, and a rule that is numbered already
-- stays as it is.
use Rattle.std.proofs.Common.{◌≡◌, ◌↔◌, ℕ, zero, suc, ◌+◌, ◌==◌, ◌||◌, Bool, true, false, List, [], ◌∷◌, ◌++◌, length, map, get_or, nat_eq, cond, refl, sym, ap, ◌∙◌, arith, one-add, subst}
use Rattle.std.proofs.lemmas.List.{map-append}
use Rattle.std.proofs.lemmas.List.Folds.{list_any-append}
use Rattle.std.proofs.lemmas.List.Sums.{sum_by-append}
use Rattle.std.proofs.lemmas.Map.Keys.{IsDistinct-push}
use Rattle.std.specs.Cmp.{unsigned_Decides, nat_eq_equiv}
use Rattle.std.specs.List.{list_any, list_all, AllByRecursion, IsDistinct, range_with_len, flat_map}
use Rattle.std.proofs.lemmas.List.FromFn.{length-range_with_len}
use Rattle.ic_term.specs.Configuration.{occurrences}
use Rattle.ic_term.specs.Tree.{Tree, name, agent, Trees, no_trees, more_trees, names, names_of}
use Rattle.ic_rules.specs.Renaming.{renamed, renamed_trees, first_after, first_occurrences, number_among, are_paired}
use Rattle.ic_rules.specs.lemmas.RenamingLaws.{flat_names-renamed}
use Rattle.ic_rules.specs.Rule.{Rule, rule_names, numbered, IsNumbered}

eq_true : (a b : ℕ) → (a == b) ≡ true → a ≡ b
eq_true a b = (unsigned_Decides a b).0

same_test : (a b c d : ℕ) → (a ≡ b → c ≡ d) → (c ≡ d → a ≡ b) → (a == b) ≡ (c == d)
same_test a b c d to back = tests (a == b) (c == d) (λ e. (unsigned_Decides c d).1 (to (eq_true a b e))) (λ e. (unsigned_Decides a b).1 (back (eq_true c d e)))
  where
    tests : (p q : Bool) → (p ≡ true → q ≡ true) → (q ≡ true → p ≡ true) → p ≡ q
    tests true q to back = sym (to refl)
    tests false true to back = back refl
    tests false false to back = refl

-- a second function undoes a renaming of these names
abbrev pub Undone : (ℕ → ℕ) → (ℕ → ℕ) → List ℕ → Type 0
Undone f back ns = AllByRecursion (λ n. back (f n) ≡ n) ns

pub undone-append : (f back : ℕ → ℕ) (ms ns : List ℕ) → Undone f back ms → Undone f back ns → Undone f back (ms ++ ns)
undone-append f back [] ns h k = k
undone-append f back (m ∷ ms) ns h k = (h.0, undone-append f back ms ns h.1 k)

-- renamed names are equal where the names are
renamed_apart : (f back : ℕ → ℕ) (a b : ℕ) → back (f a) ≡ a → back (f b) ≡ b → (f a == f b) ≡ (a == b)
renamed_apart f back a b ua ub = same_test (f a) (f b) a b (λ e. sym ua ∙ ap back e ∙ ub) (ap f)

list_any-renamed : (f back : ℕ → ℕ) (a : ℕ) (seen : List ℕ) → back (f a) ≡ a → Undone f back seen → list_any (λ m. f a == m) (map f seen) ≡ list_any (λ m. a == m) seen
list_any-renamed f back a [] ua us = refl
list_any-renamed f back a (s ∷ seen) ua us = rw (renamed_apart f back a s ua us.0, list_any-renamed f back a seen ua us.1) refl

-- renaming and taking first occurrences commute
pub first_after-map : (f back : ℕ → ℕ) (seen ns : List ℕ) → Undone f back seen → Undone f back ns → first_after (map f seen) (map f ns) ≡ map f (first_after seen ns)
first_after-map f back seen [] us un = refl
first_after-map f back seen (n ∷ ns) us un =
    let stays = first_after-map f back seen ns us un.1 in
    let moved = ap (λ ms. first_after ms (map f ns)) (sym (map-append f seen (n ∷ [])))
    ∙ first_after-map f back (seen ++ n ∷ []) ns (undone-append f back seen (n ∷ []) us (un.0, tt)) un.1 in
    rw (list_any-renamed f back n seen un.0 us)
    (elim (list_any (λ m. n == m) seen) as (λ b. cond b (first_after (map f seen) (map f ns)) (first_after (map f seen ++ f n ∷ []) (map f ns))
    ≡ map f (cond b (first_after seen ns) (first_after (seen ++ n ∷ []) ns))) [ true ↦ stays | false ↦ moved ])

-- a name has the number that its new name has among the new names
pub number_among-map : (f back : ℕ → ℕ) (firsts : List ℕ) (n : ℕ) → Undone f back firsts → back (f n) ≡ n → number_among (map f firsts) (f n) ≡ number_among firsts n
number_among-map f back [] n us un = refl
number_among-map f back (m ∷ ms) n us un = rw (renamed_apart f back n m un us.0, number_among-map f back ms n us.1 un) refl

-- the number of a name that is there leads to it
undone_at : (firsts : List ℕ) (n : ℕ) → list_any (λ m. n == m) firsts ≡ true → get_or firsts (number_among firsts n) 0 ≡ n
undone_at [] n there = cc
undone_at (m ∷ ms) n there = at (n == m) refl (undone_at ms n)
  where
    at : (b : Bool) → (n == m) ≡ b → (list_any (λ k. n == k) ms ≡ true → get_or ms (number_among ms n) 0 ≡ n) → get_or (m ∷ ms) (number_among (m ∷ ms) n) 0 ≡ n
    at true is below = rw is (sym (eq_true n m is))
    at false is below = let later : list_any (λ k. n == k) ms ≡ true = rw is at there in rw (is, one-add) (below later)

-- what was seen is among the first occurrences
seen_stays : (n : ℕ) (seen ns : List ℕ) → list_any (λ m. n == m) seen ≡ true → list_any (λ m. n == m) (first_after seen ns) ≡ true
seen_stays n seen [] there = there
seen_stays n seen (k ∷ ns) there = elim (list_any (λ m. k == m) seen) as (λ b. list_any (λ m. n == m) (cond b (first_after seen ns) (first_after (seen ++ k ∷ []) ns)) ≡ true) [
  | true ↦ seen_stays n seen ns there
  | false ↦ seen_stays n (seen ++ k ∷ []) ns (rw (list_any-append (λ m. n == m) seen (k ∷ []), there) refl)
]

pub self_eq : (n : ℕ) → (n == n) ≡ true
self_eq n = (unsigned_Decides n n).1 refl

-- so is each name of the list
abbrev pub Among : List ℕ → List ℕ → Type 0
Among firsts ns = AllByRecursion (λ n. list_any (λ m. n == m) firsts ≡ true) ns

among_next : (seen : List ℕ) (n : ℕ) (ns : List ℕ) (b : Bool) → list_any (λ m. n == m) seen ≡ b
    → Among (first_after seen ns) ns → Among (first_after (seen ++ n ∷ []) ns) ns → Among (first_after seen (n ∷ ns)) (n ∷ ns)
among_next seen n ns true is old new =
    let same : first_after seen ns ≡ first_after seen (n ∷ ns) = rw is refl in
    subst (λ firsts. Among firsts (n ∷ ns)) same (seen_stays n seen ns is, old)
among_next seen n ns false is old new =
    let same : first_after (seen ++ n ∷ []) ns ≡ first_after seen (n ∷ ns) = rw is refl in
    let here : list_any (λ m. n == m) (seen ++ n ∷ []) ≡ true = rw (list_any-append (λ m. n == m) seen (n ∷ []), is, self_eq n) refl in
    subst (λ firsts. Among firsts (n ∷ ns)) same (seen_stays n (seen ++ n ∷ []) ns here, new)

pub each_among : (seen ns : List ℕ) → Among (first_after seen ns) ns
each_among seen [] = tt
each_among seen (n ∷ ns) = among_next seen n ns (list_any (λ m. n == m) seen) refl (each_among seen ns) (each_among (seen ++ n ∷ []) ns)

distinct_next : (seen : List ℕ) (n : ℕ) (ns : List ℕ) (b : Bool) → list_any (λ m. n == m) seen ≡ b → IsDistinct nat_eq seen
    → IsDistinct nat_eq (first_after seen ns) → (IsDistinct nat_eq (seen ++ n ∷ []) → IsDistinct nat_eq (first_after (seen ++ n ∷ []) ns))
    → IsDistinct nat_eq (first_after seen (n ∷ ns))
distinct_next seen n ns true is d old new = rw is old
distinct_next seen n ns false is d old new = rw is (new (IsDistinct-push nat_eq_equiv seen n d is))

-- the first occurrences are distinct
pub first_after-distinct : (seen ns : List ℕ) → IsDistinct nat_eq seen → IsDistinct nat_eq (first_after seen ns)
first_after-distinct seen [] d = d
first_after-distinct seen (n ∷ ns) d = distinct_next seen n ns (list_any (λ m. n == m) seen) refl d (first_after-distinct seen ns d) (first_after-distinct (seen ++ n ∷ []) ns)

-- after another name the numbers are one more
shift : (n : ℕ) (firsts ms : List ℕ) → AllByRecursion (λ m. nat_eq n m ≡ false) ms
    → map (number_among (n ∷ firsts)) ms ≡ map (λ k. 1 + k) (map (number_among firsts) ms)
shift n firsts [] apart = refl
shift n firsts (m ∷ ms) apart =
    let other : (m == n) ≡ false = same_test m n n m sym sym ∙ apart.0 in
    rw (other, shift n firsts ms apart.1) refl

range-one : (a n : ℕ) → map (λ k. 1 + k) (range_with_len a n) ≡ range_with_len (a + 1) n
range-one a zero = refl
range-one a (suc n) = rw (range-one (a + 1) n) (ap (λ k. k ∷ range_with_len (a + 1 + 1) n) (omega arith))

pub none_distinct : IsDistinct nat_eq []
unfolding IsDistinct
none_distinct = tt

-- distinct names have the numbers 0, 1, ..
pub numbers-distinct : (firsts : List ℕ) → IsDistinct nat_eq firsts → map (number_among firsts) firsts ≡ range_with_len 0 (length firsts)
unfolding IsDistinct
numbers-distinct [] d = refl
numbers-distinct (n ∷ ns) d =
    rw (self_eq n, shift n ns ns d.0, numbers-distinct ns d.1, range-one 0 (length ns)) refl

-- the name at a place of a list
abbrev pub name_at : List ℕ → ℕ → ℕ
name_at firsts k = get_or firsts k 0

-- the name at a number's place undoes the numbering
pub each_undone : (ns : List ℕ) → Undone (number_among (first_occurrences ns)) (name_at (first_occurrences ns)) ns
each_undone ns = undone_each (first_occurrences ns) ns (each_among [] ns)
  where
    undone_each : (firsts ms : List ℕ) → Among firsts ms → Undone (number_among firsts) (name_at firsts) ms
    undone_each firsts [] a = tt
    undone_each firsts (m ∷ ms) a = (undone_at firsts m a.0, undone_each firsts ms a.1)

-- numbered names have the numbers as their first occurrences
pub first_occurrences-numbered : (ns : List ℕ) → first_occurrences (map (number_among (first_occurrences ns)) ns) ≡ range_with_len 0 (length (first_occurrences ns))
first_occurrences-numbered ns =
    first_after-map (number_among (first_occurrences ns)) (name_at (first_occurrences ns)) [] ns tt (each_undone ns)
    ∙ numbers-distinct (first_occurrences ns) (first_after-distinct [] ns none_distinct)

occurrences-cons : (q n : ℕ) (ns : List ℕ) → occurrences q (n ∷ ns) ≡ cond (n == q) 1 0 + occurrences q ns
occurrences-cons q n ns = sum_by-append (λ m. cond (m == q) 1 0) (n ∷ []) ns ∙ ap (λ k. k + occurrences q ns) (omega arith)

-- a name occurs in a list as often as its new name among the new names
pub occurrences-renamed : (f back : ℕ → ℕ) (a : ℕ) (ns : List ℕ) → back (f a) ≡ a → Undone f back ns → occurrences (f a) (map f ns) ≡ occurrences a ns
occurrences-renamed f back a [] ua un = refl
occurrences-renamed f back a (n ∷ ns) ua un =
    occurrences-cons (f a) (f n) (map f ns)
    ∙ ap (λ b. cond b 1 0 + occurrences (f a) (map f ns)) (renamed_apart f back n a un.0 ua)
    ∙ ap (λ k. cond (n == a) 1 0 + k) (occurrences-renamed f back a ns ua un.1)
    ∙ sym (occurrences-cons a n ns)

paired_renamed : (f back : ℕ → ℕ) (all ns : List ℕ) → Undone f back all → Undone f back ns
    → list_all (λ n. occurrences n (map f all) == 2) (map f ns) ≡ list_all (λ n. occurrences n all == 2) ns
paired_renamed f back all [] ua un = refl
paired_renamed f back all (n ∷ ns) ua un = rw (occurrences-renamed f back n all un.0 ua, paired_renamed f back all ns ua un.1) refl

-- numbering keeps that each name occurs exactly twice
pub are_paired-numbered : (ns : List ℕ) → are_paired (map (number_among (first_occurrences ns)) ns) ≡ are_paired ns
are_paired-numbered ns = paired_renamed (number_among (first_occurrences ns)) (name_at (first_occurrences ns)) ns ns (each_undone ns) (each_undone ns)

-- a function that leaves a list as it is leaves its members
abbrev pub Fixes : (ℕ → ℕ) → List ℕ → Type 0
Fixes f ns = AllByRecursion (λ n. f n ≡ n) ns

head_or : ℕ → List ℕ → ℕ
head_or d [] = d
head_or d (n ∷ ns) = n

rest_of : List ℕ → List ℕ
rest_of [] = []
rest_of (n ∷ ns) = ns

fixed_member : (f : ℕ → ℕ) (xs : List ℕ) (m : ℕ) → map f xs ≡ xs → list_any (λ k. m == k) xs ≡ true → f m ≡ m
unfolding head_or rest_of
fixed_member f [] m same there = cc
fixed_member f (x ∷ xs) m same there = by_test (m == x) refl there (fixed_member f xs m (ap rest_of same))
  where
    by_test : (b : Bool) → (m == x) ≡ b → (b || list_any (λ k. m == k) xs) ≡ true → (list_any (λ k. m == k) xs ≡ true → f m ≡ m) → f m ≡ m
    by_test true e there below = let is = (unsigned_Decides m x).0 e in ap f is ∙ ap (head_or 0) same ∙ sym is
    by_test false e there below = below there

pub fixed_members : (f : ℕ → ℕ) (xs ms : List ℕ) → map f xs ≡ xs → Among xs ms → Fixes f ms
fixed_members f xs [] same all = tt
fixed_members f xs (m ∷ ms) same all = (fixed_member f xs m same all.0, fixed_members f xs ms same all.1)

pub fixes-append : (f : ℕ → ℕ) (ms ns : List ℕ) → Fixes f (ms ++ ns) → Fixes f ms × Fixes f ns
fixes-append f [] ns all = (tt, all)
fixes-append f (m ∷ ms) ns all = let rest = fixes-append f ms ns all.1 in ((all.0, rest.0), rest.1)

mutual
  renamed-fixed : (f : ℕ → ℕ) (t : Tree) → Fixes f (names t) → renamed f t ≡ t
  renamed-fixed f (name n) all = ap name all.0
  renamed-fixed f (agent s ts) all = ap (agent s) (renamed_trees-fixed f ts all)

  renamed_trees-fixed : (f : ℕ → ℕ) (ts : Trees) → Fixes f (names_of ts) → renamed_trees f ts ≡ ts
  renamed_trees-fixed f no_trees all = refl
  renamed_trees-fixed f (more_trees t ts) all =
      let parts = fixes-append f (names t) (names_of ts) all in
      λ i. more_trees (renamed-fixed f t parts.0 i) (renamed_trees-fixed f ts parts.1 i)

pub terms-fixed : (f : ℕ → ℕ) (ts : List Tree) → Fixes f (flat_map names ts) → map (renamed f) ts ≡ ts
terms-fixed f [] all = refl
terms-fixed f (t ∷ ts) all =
    let parts = fixes-append f (names t) (flat_map names ts) all in
    λ i. renamed-fixed f t parts.0 i ∷ terms-fixed f ts parts.1 i

-- a rule that is numbered already stays as it is
pub numbered-same : (r : Rule) → IsNumbered r → numbered r ≡ r
numbered-same r in_order =
    let firsts = first_occurrences (rule_names r) in
    let count : length firsts ≡ r.names = ap length in_order ∙ length-range_with_len 0 r.names in
    let numbers = numbers-distinct firsts (first_after-distinct [] (rule_names r) none_distinct) in
    let same : map (number_among firsts) firsts ≡ firsts = numbers ∙ ap (range_with_len 0) count ∙ sym in_order in
    let all = fixed_members (number_among firsts) firsts (rule_names r) same (each_among [] (rule_names r)) in
    let fixed = fixes-append (number_among firsts) (flat_map names r.left_args) (flat_map names r.right_args) all in
    let left = terms-fixed (number_among firsts) r.left_args fixed.0 in
    let right = terms-fixed (number_among firsts) r.right_args fixed.1 in
    λ i. record { left = r.left; right = r.right; left_args = left i; right_args = right i; names = count i }

-- so do rules
pub map-numbered-same : (rs : List Rule) → AllByRecursion IsNumbered rs → map numbered rs ≡ rs
map-numbered-same [] all = refl
map-numbered-same (r ∷ rs) all = λ i. numbered-same r all.0 i ∷ map-numbered-same rs all.1 i

rule_names-numbered : (r : Rule) → rule_names (numbered r) ≡ map (number_among (first_occurrences (rule_names r))) (rule_names r)
rule_names-numbered r =
    let f : ℕ → ℕ = number_among (first_occurrences (rule_names r)) in
    (λ i. flat_names-renamed f r.left_args i ++ flat_names-renamed f r.right_args i) ∙ sym (map-append f (flat_map names r.left_args) (flat_map names r.right_args))

-- a numbered rule is numbered
pub numbered-IsNumbered : (r : Rule) → IsNumbered (numbered r)
numbered-IsNumbered r = ap first_occurrences (rule_names-numbered r) ∙ first_occurrences-numbered (rule_names r)

-- a rule stays as it is exactly where it is numbered already
pub numbered-exactly : (r : Rule) → (numbered r ≡ r) ↔ IsNumbered r
numbered-exactly r = ((λ same. subst IsNumbered same (numbered-IsNumbered r)), numbered-same r)
