-- A rule of a symbol with itself is its own swap exactly where it is its own mirror.
use Rattle.std.proofs.Common.{◌≡◌, ◌↔◌, ℕ, ◌==◌, Bool, true, false, not, ◌&&◌, List, [], ◌∷◌, ◌++◌, cond, length, map, refl, sym, ap, ◌∙◌, subst}
use Rattle.std.proofs.lemmas.List.{map-append, length-map}
use Rattle.std.specs.Cmp.{unsigned_Decides}
use Rattle.std.specs.List.{flat_map, list_any, AllByRecursion}
use Rattle.ic_term.specs.Tree.{Tree, names}
use Rattle.ic_rules.specs.Renaming.{renamed, first_after, first_occurrences, number_among}
use Rattle.ic_rules.specs.lemmas.RenamingLaws.{flat_names-renamed, Through, through-append, terms-through}
use Rattle.ic_rules.specs.lemmas.NumberingLaws.{Undone, undone-append, each_undone, first_after-map, number_among-map, name_at, Fixes, terms-fixed}
use Rattle.ic_rules.specs.Rule.{Rule, numbered, swapped, rule_eq, is_lopsided}
use Rattle.ic_rules.specs.lemmas.RuleLaws.{rule_eq-Decides}
use Rattle.ic_rules.specs.Mirror.{IsOwnMirror}

-- a renaming that is undone on names is so on their first occurrences
undone_firsts : (f back : ℕ → ℕ) (seen ns : List ℕ) → Undone f back seen → Undone f back ns → Undone f back (first_after seen ns)
undone_firsts f back seen [] us un = us
undone_firsts f back seen (n ∷ ns) us un =
    elim (list_any (λ m. n == m) seen) as (λ b. Undone f back (cond b (first_after seen ns) (first_after (seen ++ n ∷ []) ns))) [
      | true ↦ undone_firsts f back seen ns us un.1
      | false ↦ undone_firsts f back (seen ++ n ∷ []) ns (undone-append f back seen (n ∷ []) us (un.0, tt)) un.1
    ]

-- renamed names have the numbers of the names
numbers_of_renamed : (f back : ℕ → ℕ) (ns : List ℕ) → Undone f back ns → Through f (number_among (first_occurrences (map f ns))) (number_among (first_occurrences ns)) ns
numbers_of_renamed f back ns un =
    subst (λ firsts. Through f (number_among firsts) (number_among (first_occurrences ns)) ns) (sym (first_after-map f back [] ns tt un))
    (each ns un)
  where
    each : (ms : List ℕ) → Undone f back ms → Through f (number_among (map f (first_occurrences ns))) (number_among (first_occurrences ns)) ms
    each [] um = tt
    each (m ∷ ms) um = (number_among-map f back (first_occurrences ns) m (undone_firsts f back [] ns tt un) um.0, each ms um.1)

count_of_renamed : (f back : ℕ → ℕ) (ns : List ℕ) → Undone f back ns → length (first_occurrences (map f ns)) ≡ length (first_occurrences ns)
count_of_renamed f back ns un = ap length (first_after-map f back [] ns tt un) ∙ length-map (first_occurrences ns) f

-- a renaming that gives names back when it is done twice
back_again : (f : ℕ → ℕ) (ns : List ℕ) → map f (map f ns) ≡ ns → Undone f f ns
back_again f [] same = tt
back_again f (n ∷ ns) same = (ap (head_or 0) same, back_again f ns (ap rest_of same))
  where
    head_or : ℕ → List ℕ → ℕ
    head_or d [] = d
    head_or d (m ∷ ms) = m

    rest_of : List ℕ → List ℕ
    rest_of [] = []
    rest_of (m ∷ ms) = ms

one_to_one : (f : ℕ → ℕ) (ms ns : List ℕ) → Undone f f ms → Undone f f ns → AllByRecursion (λ m. AllByRecursion (λ n. f m ≡ f n → m ≡ n) ns) ms
one_to_one f [] ns um un = tt
one_to_one f (m ∷ ms) ns um un = (apart ns un, one_to_one f ms ns um.1 un)
  where
    apart : (ks : List ℕ) → Undone f f ks → AllByRecursion (λ n. f m ≡ f n → m ≡ n) ks
    apart [] uk = tt
    apart (k ∷ ks) uk = ((λ e. sym um.0 ∙ ap f e ∙ uk.0), apart ks uk.1)

-- the names of sides that a renaming exchanges
exchanged : (f : ℕ → ℕ) (ts us : List Tree) → map (renamed f) us ≡ ts → map f (flat_map names us) ≡ flat_map names ts
exchanged f ts us same = sym (flat_names-renamed f us) ∙ ap (flat_map names) same

undone_both : (f : ℕ → ℕ) (ts us : List Tree) → map (renamed f) us ≡ ts → map (renamed f) ts ≡ us → Undone f f (flat_map names ts ++ flat_map names us)
undone_both f ts us left right =
    let to = exchanged f ts us left in
    let back = exchanged f us ts right in
    undone-append f f (flat_map names ts) (flat_map names us) (back_again f (flat_map names ts) (ap (map f) back ∙ to)) (back_again f (flat_map names us) (ap (map f) to ∙ back))

through_both : (f g : ℕ → ℕ) (ns : List ℕ) → Through f g (λ n. g (f n)) ns
through_both f g [] = tt
through_both f g (n ∷ ns) = (refl, through_both f g ns)

fixes_all : (ns : List ℕ) → Fixes (λ n. n) ns
fixes_all [] = tt
fixes_all (n ∷ ns) = (refl, fixes_all ns)

-- the names of two sides
abbrev names_of_sides : List Tree → List Tree → List ℕ
names_of_sides ts us = flat_map names ts ++ flat_map names us

-- the number of a name of two sides
abbrev side_number : List Tree → List Tree → ℕ → ℕ
side_number ts us = number_among (first_occurrences (names_of_sides ts us))

swapped_names : (g : ℕ → ℕ) (ts us : List Tree) → flat_map names (map (renamed g) us) ++ flat_map names (map (renamed g) ts) ≡ map g (names_of_sides us ts)
swapped_names g ts us = (λ i. flat_names-renamed g us i ++ flat_names-renamed g ts i) ∙ sym (map-append g (flat_map names us) (flat_map names ts))

-- the numbering of sides is undone on the sides exchanged
undone_swapped : (ts us : List Tree) → Undone (side_number ts us) (name_at (first_occurrences (names_of_sides ts us))) (names_of_sides us ts)
undone_swapped ts us =
    let g : ℕ → ℕ = side_number ts us in
    let back : ℕ → ℕ = name_at (first_occurrences (names_of_sides ts us)) in
    let parts = through-append g back (λ n. n) (flat_map names ts) (flat_map names us) (each_undone (names_of_sides ts us)) in
    undone-append g back (flat_map names us) (flat_map names ts) parts.1 parts.0

-- numbering sides that are numbered and exchanged is numbering them exchanged
number_again : (ts us : List Tree) → Through (side_number ts us) (side_number (map (renamed (side_number ts us)) us) (map (renamed (side_number ts us)) ts)) (side_number us ts) (names_of_sides us ts)
number_again ts us =
    let g : ℕ → ℕ = side_number ts us in
    subst (λ ns. Through g (number_among (first_occurrences ns)) (side_number us ts) (names_of_sides us ts)) (sym (swapped_names g ts us))
    (numbers_of_renamed g (name_at (first_occurrences (names_of_sides ts us))) (names_of_sides us ts) (undone_swapped ts us))

-- exchanging by a renaming keeps numbers
number_exchanged : (f : ℕ → ℕ) (ts us : List Tree) → map (renamed f) us ≡ ts → map (renamed f) ts ≡ us → Through f (side_number us ts) (side_number ts us) (names_of_sides ts us)
number_exchanged f ts us left right =
    subst (λ ns. Through f (number_among (first_occurrences ns)) (side_number ts us) (names_of_sides ts us))
    (map-append f (flat_map names ts) (flat_map names us) ∙ (λ i. exchanged f us ts right i ++ exchanged f ts us left i))
    (numbers_of_renamed f f (names_of_sides ts us) (undone_both f ts us left right))

-- a mirror is its own swap once it is numbered
pub swap_of_mirror : (r : Rule) → r.left ≡ r.right → IsOwnMirror r → numbered r ≡ numbered (swapped (numbered r))
swap_of_mirror r same m =
    let ts = r.left_args in
    let us = r.right_args in
    let f = m.rename in
    let g : ℕ → ℕ = side_number ts us in
    let s : ℕ → ℕ = side_number us ts in
    let h : ℕ → ℕ = side_number (map (renamed g) us) (map (renamed g) ts) in
    let again = through-append g h s (flat_map names us) (flat_map names ts) (number_again ts us) in
    let over = through-append f s g (flat_map names ts) (flat_map names us) (number_exchanged f ts us m.left m.right) in
    let lefts : map (renamed h) (map (renamed g) us) ≡ map (renamed g) ts =
    terms-through g h s us again.0 ∙ ap (map (renamed s)) (sym m.right) ∙ terms-through f s g ts over.0 in
    let rights : map (renamed h) (map (renamed g) ts) ≡ map (renamed g) us =
    terms-through g h s ts again.1 ∙ ap (map (renamed s)) (sym m.left) ∙ terms-through f s g us over.1 in
    let exchange : map f (names_of_sides ts us) ≡ names_of_sides us ts =
    map-append f (flat_map names ts) (flat_map names us) ∙ (λ i. exchanged f us ts m.right i ++ exchanged f ts us m.left i) in
    let count : length (first_occurrences (flat_map names (map (renamed g) us) ++ flat_map names (map (renamed g) ts))) ≡ length (first_occurrences (names_of_sides ts us)) =
    ap (λ ns. length (first_occurrences ns)) (swapped_names g ts us)
    ∙ count_of_renamed g (name_at (first_occurrences (names_of_sides ts us))) (names_of_sides us ts) (undone_swapped ts us)
    ∙ ap (λ ns. length (first_occurrences ns)) (sym exchange)
    ∙ count_of_renamed f f (names_of_sides ts us) (undone_both f ts us m.left m.right) in
    λ i. record { left = same i; right = sym same i; left_args = sym lefts i; right_args = sym rights i; names = sym count i }

-- what is its own swap once it is numbered is a mirror
pub mirror_of_swap : (r : Rule) → numbered r ≡ numbered (swapped (numbered r)) → IsOwnMirror r
mirror_of_swap r is =
    let ts = r.left_args in
    let us = r.right_args in
    let firsts = first_occurrences (names_of_sides ts us) in
    let g : ℕ → ℕ = side_number ts us in
    let h : ℕ → ℕ = side_number (map (renamed g) us) (map (renamed g) ts) in
    let f : ℕ → ℕ = λ n. name_at firsts (h (g n)) in
    let undone = through-append g (name_at firsts) (λ n. n) (flat_map names ts) (flat_map names us) (each_undone (names_of_sides ts us)) in
    let left : map (renamed f) us ≡ ts = whole g h firsts us ts (ap (λ (q : Rule). q.left_args) is) undone.0 in
    let right : map (renamed f) ts ≡ us = whole g h firsts ts us (ap (λ (q : Rule). q.right_args) is) undone.1 in
    let all = undone_both f ts us left right in
    record { rename = f; one_to_one = one_to_one f (names_of_sides ts us) (names_of_sides ts us) all all; left = left; right = right }
  where
    whole : (g h : ℕ → ℕ) (firsts : List ℕ) (us ts : List Tree) → map (renamed g) ts ≡ map (renamed h) (map (renamed g) us)
        → Undone g (name_at firsts) (flat_map names ts) → map (renamed (λ n. name_at firsts (h (g n)))) us ≡ ts
    whole g h firsts us ts same undone =
        sym (terms-through (λ n. h (g n)) (name_at firsts) (λ n. name_at firsts (h (g n))) us (through_both (λ n. h (g n)) (name_at firsts) (flat_map names us)))
        ∙ ap (map (renamed (name_at firsts))) (sym (terms-through g h (λ n. h (g n)) us (through_both g h (flat_map names us))) ∙ sym same)
        ∙ terms-through g (name_at firsts) (λ n. n) ts undone
        ∙ terms-fixed (λ n. n) ts (fixes_all (flat_map names ts))

test_false : (a b : Bool) → b ≡ true → (a && not b) ≡ false
test_false true b e = rw e refl
test_false false b e = refl

test_true : (a b : Bool) → a ≡ true → (a && not b) ≡ false → b ≡ true
test_true true true ea e = refl
test_true true false ea e = cc
test_true false b ea e = cc

-- a rule of a symbol with itself is taken exactly where it is its own mirror
pub lopsided_mirror : (r : Rule) → r.left ≡ r.right → (is_lopsided (numbered r) ≡ false) ↔ IsOwnMirror r
lopsided_mirror r same =
    let swap = numbered (swapped (numbered r)) in (
      (λ level. mirror_of_swap r ((rule_eq-Decides (numbered r) swap).0 (test_true (r.left == r.right) (rule_eq (numbered r) swap) ((unsigned_Decides r.left r.right).1 same) level))),
      (λ m. test_false (r.left == r.right) (rule_eq (numbered r) swap) ((rule_eq-Decides (numbered r) swap).1 (swap_of_mirror r same m))),
    )

-- a rule of two symbols isn't lopsided
pub level_apart : (r : Rule) → (r.left ≡ r.right → ⊥) → is_lopsided (numbered r) ≡ false
level_apart r apart = by (r.left == r.right) refl
  where
    by : (b : Bool) → (r.left == r.right) ≡ b → (b && not (rule_eq (numbered r) (numbered (swapped (numbered r))))) ≡ false
    by true e = absurd (apart ((unsigned_Decides r.left r.right).0 e))
    by false e = refl
