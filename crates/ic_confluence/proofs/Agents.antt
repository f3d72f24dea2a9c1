-- Lemmas: configurations of one net have the same agents.
use Rattle.std.proofs.Common.{◌≡◌, ◌⊎◌, ℕ, ◌≤◌, ◌<◌, ◌==◌, List, [], ◌∷◌, ◌++◌, Bool, true, false, cond, map, refl, sym, ap, ◌∙◌, append_assoc, arith, inl, inr, subst as transport}
use Rattle.std.specs.Prelude.{IsPermutation}
use Rattle.std.specs.List.{flat_map}
use Rattle.std.proofs.lemmas.Bool.{cases_lt}
use Rattle.std.proofs.lemmas.List.Sorted.{IsPermutation-refl, IsPermutation-sym, IsPermutation-trans, IsPermutation-cons, IsPermutation-append, IsPermutation-append_comm}
use Rattle.ic_term.specs.Tree.{Tree, name, agent, Trees, no_trees, more_trees, names, names_of, Pair}
use Rattle.ic_term.specs.Configuration.{Configuration, occurrences}
use Rattle.ic_rules.specs.Renaming.{renamed, renamed_trees}
use Rattle.ic_settle.specs.Settling.{subst, subst_all}
use Rattle.ic_settle.specs.lemmas.SubstitutionLaws.{occurrences-append, subst-absent, subst_all-absent}
use Rattle.ic_confluence.specs.Agents.{symbols, symbols_of, pair_symbols, configuration_symbols}
use Rattle.ic_confluence.specs.Sameness.{Alike, itself, exchanged, rotated, in_turn, Rearranged, nothing, kept, swapped, one_by_one, renamed_pair, Same, renaming, rearranging, through}
use Rattle.ic_confluence.specs.lemmas.Counts.{alone_other}

-- three parts, the last two exchanged
last_two : (xs ys zs : List ℕ) → IsPermutation ((xs ++ ys) ++ zs) ((xs ++ zs) ++ ys)
last_two xs ys zs =
    let P : List ℕ → Type 0 = λ l. IsPermutation l ((xs ++ zs) ++ ys) in
    let Q : List ℕ → Type 0 = λ l. IsPermutation (xs ++ (ys ++ zs)) l in
    transport P (sym (append_assoc xs ys zs)) (transport Q (sym (append_assoc xs zs ys))
    (IsPermutation-append xs xs (ys ++ zs) (zs ++ ys) (IsPermutation-refl xs) (IsPermutation-append_comm ys zs)))

-- the first two exchanged
first_two : (xs ys zs : List ℕ) → IsPermutation (xs ++ (ys ++ zs)) (ys ++ (xs ++ zs))
first_two xs ys zs =
    let P : List ℕ → Type 0 = λ l. IsPermutation l (ys ++ (xs ++ zs)) in
    let Q : List ℕ → Type 0 = λ l. IsPermutation ((xs ++ ys) ++ zs) l in
    transport P (append_assoc xs ys zs) (transport Q (append_assoc ys xs zs)
    (IsPermutation-append (xs ++ ys) (ys ++ xs) zs zs (IsPermutation-append_comm xs ys) (IsPermutation-refl zs)))

-- ---- a term put for a name that occurs once

put_symbol : (x n : ℕ) (u : Tree) (b : Bool) → (n == x) ≡ b → occurrences x (n ∷ []) ≡ 1 → IsPermutation (symbols (cond b u (name n))) (symbols u)
put_symbol x n u true e once = IsPermutation-refl (symbols u)
put_symbol x n u false e once = let none = alone_other x n e in absurd (omega (arith, none, once))

-- in one term, or in those after it
at_either : (x : ℕ) (u t : Tree) (ts : Trees) → occurrences x (names t ++ names_of ts) ≡ 1 → (0 < occurrences x (names t)) ⊎ (occurrences x (names t) ≤ 0)
    → (occurrences x (names t) ≡ 1 → IsPermutation (symbols (subst x u t)) (symbols t ++ symbols u))
    → (occurrences x (names_of ts) ≡ 1 → IsPermutation (symbols_of (subst_all x u ts)) (symbols_of ts ++ symbols u))
    → IsPermutation (symbols (subst x u t) ++ symbols_of (subst_all x u ts)) ((symbols t ++ symbols_of ts) ++ symbols u)
at_either x u t ts once (inl some) first rest =
    let both = occurrences-append x (names t) (names_of ts) in
    let stay = subst_all-absent x u ts (omega (arith, both, once, some)) in
    let P : Trees → Type 0 = λ us. IsPermutation (symbols (subst x u t) ++ symbols_of us) ((symbols t ++ symbols_of ts) ++ symbols u) in
    transport P (sym stay) (IsPermutation-trans (symbols (subst x u t) ++ symbols_of ts) ((symbols t ++ symbols u) ++ symbols_of ts) ((symbols t ++ symbols_of ts) ++ symbols u)
    (IsPermutation-append (symbols (subst x u t)) (symbols t ++ symbols u) (symbols_of ts) (symbols_of ts) (first (omega (arith, both, once, some))) (IsPermutation-refl (symbols_of ts)))
    (last_two (symbols t) (symbols u) (symbols_of ts)))
at_either x u t ts once (inr none) first rest =
    let both = occurrences-append x (names t) (names_of ts) in
    let stay = subst-absent x u t (omega (arith, none)) in
    let P : Tree → Type 0 = λ v. IsPermutation (symbols v ++ symbols_of (subst_all x u ts)) ((symbols t ++ symbols_of ts) ++ symbols u) in
    let Q : List ℕ → Type 0 = λ l. IsPermutation (symbols t ++ symbols_of (subst_all x u ts)) l in
    transport P (sym stay) (transport Q (sym (append_assoc (symbols t) (symbols_of ts) (symbols u)))
    (IsPermutation-append (symbols t) (symbols t) (symbols_of (subst_all x u ts)) (symbols_of ts ++ symbols u) (IsPermutation-refl (symbols t)) (rest (omega (arith, both, once, none)))))

mutual
  put_symbols : (x : ℕ) (u t : Tree) → occurrences x (names t) ≡ 1 → IsPermutation (symbols (subst x u t)) (symbols t ++ symbols u)
  put_symbols x u (name n) once = put_symbol x n u (n == x) refl once
  put_symbols x u (agent s ts) once = IsPermutation-cons s (symbols_of (subst_all x u ts)) (symbols_of ts ++ symbols u) (put_symbols_of x u ts once)

  put_symbols_of : (x : ℕ) (u : Tree) (ts : Trees) → occurrences x (names_of ts) ≡ 1 → IsPermutation (symbols_of (subst_all x u ts)) (symbols_of ts ++ symbols u)
  put_symbols_of x u no_trees once = absurd (let nothing : occurrences x [] ≡ 0 = refl in omega (arith, nothing, once))
  put_symbols_of x u (more_trees t ts) once =
      at_either x u t ts once (cases_lt 0 (occurrences x (names t))) (λ here. put_symbols x u t here) (λ later. put_symbols_of x u ts later)

-- ---- equations

alike_symbols : (p q : Pair) → Alike p q → IsPermutation (pair_symbols p) (pair_symbols q)
alike_symbols p q (itself r) = IsPermutation-refl (pair_symbols r)
alike_symbols p q (exchanged r) = IsPermutation-append_comm (symbols r.left) (symbols r.right)
alike_symbols p q (rotated r s is) =
    let one = put_symbols is.cut is.inner is.outer is.once_outer in
    let other = put_symbols is.cut is.outer is.inner is.once_inner in
    let P : Pair → Type 0 = λ z. IsPermutation (pair_symbols z) (pair_symbols s) in
    let Q : Pair → Type 0 = λ z. IsPermutation (symbols (subst is.cut is.inner is.outer)) (pair_symbols z) in
    transport P (sym is.given) (transport Q (sym is.result)
    (IsPermutation-trans (symbols (subst is.cut is.inner is.outer)) (symbols is.outer ++ symbols is.inner) (symbols (subst is.cut is.outer is.inner)) one
    (IsPermutation-trans (symbols is.outer ++ symbols is.inner) (symbols is.inner ++ symbols is.outer) (symbols (subst is.cut is.outer is.inner))
    (IsPermutation-append_comm (symbols is.outer) (symbols is.inner))
    (IsPermutation-sym (symbols (subst is.cut is.outer is.inner)) (symbols is.inner ++ symbols is.outer) other))))
alike_symbols p q (in_turn r s t first second) = IsPermutation-trans (pair_symbols r) (pair_symbols s) (pair_symbols t) (alike_symbols r s first) (alike_symbols s t second)

arranged_symbols : (es fs : List Pair) → Rearranged es fs → IsPermutation (flat_map pair_symbols es) (flat_map pair_symbols fs)
arranged_symbols es fs nothing = IsPermutation-refl []
arranged_symbols es fs (kept p q ps qs alike rest) =
    IsPermutation-append (pair_symbols p) (pair_symbols q) (flat_map pair_symbols ps) (flat_map pair_symbols qs) (alike_symbols p q alike) (arranged_symbols ps qs rest)
arranged_symbols es fs (swapped p q ps) = first_two (pair_symbols p) (pair_symbols q) (flat_map pair_symbols ps)
arranged_symbols es fs (one_by_one ps qs rs first second) =
    IsPermutation-trans (flat_map pair_symbols ps) (flat_map pair_symbols qs) (flat_map pair_symbols rs) (arranged_symbols ps qs first) (arranged_symbols qs rs second)

-- ---- names renamed

mutual
  renamed_symbols : (f : ℕ → ℕ) (t : Tree) → symbols (renamed f t) ≡ symbols t
  renamed_symbols f (name n) = refl
  renamed_symbols f (agent s ts) = ap (λ l. s ∷ l) (renamed_symbols_of f ts)

  renamed_symbols_of : (f : ℕ → ℕ) (ts : Trees) → symbols_of (renamed_trees f ts) ≡ symbols_of ts
  renamed_symbols_of f no_trees = refl
  renamed_symbols_of f (more_trees t ts) = λ i. renamed_symbols f t i ++ renamed_symbols_of f ts i

terms_symbols : (f : ℕ → ℕ) (ts : List Tree) → flat_map symbols (map (renamed f) ts) ≡ flat_map symbols ts
terms_symbols f [] = refl
terms_symbols f (t ∷ ts) = λ i. renamed_symbols f t i ++ terms_symbols f ts i

pairs_symbols : (f : ℕ → ℕ) (es : List Pair) → flat_map pair_symbols (map (renamed_pair f) es) ≡ flat_map pair_symbols es
pairs_symbols f [] = refl
pairs_symbols f (p ∷ es) = λ i. (renamed_symbols f p.left i ++ renamed_symbols f p.right i) ++ pairs_symbols f es i

pub same_symbols : (c d : Configuration) → Same c d → IsPermutation (configuration_symbols c) (configuration_symbols d)
same_symbols c d (renaming x y r) =
    let P : List ℕ → Type 0 = IsPermutation (configuration_symbols x) in
    transport P (sym (ap configuration_symbols r.result ∙ (λ i. terms_symbols r.to x.interface i ++ pairs_symbols r.to x.equations i))) (IsPermutation-refl (configuration_symbols x))
same_symbols c d (rearranging x y r) =
    let P : List ℕ → Type 0 = IsPermutation (configuration_symbols x) in
    transport P (sym (ap configuration_symbols r.result))
    (IsPermutation-append (flat_map symbols x.interface) (flat_map symbols x.interface) (flat_map pair_symbols x.equations) (flat_map pair_symbols y.equations)
    (IsPermutation-refl (flat_map symbols x.interface)) (arranged_symbols x.equations y.equations r.equations))
same_symbols c d (through x y z first second) =
    IsPermutation-trans (configuration_symbols x) (configuration_symbols y) (configuration_symbols z) (same_symbols x y first) (same_symbols y z second)
