-- Lemmas: circles among equations, their names, and that rounds keep how many terms the interface has.
use Rattle.std.proofs.Common.{◌≡◌, ℕ, zero, suc, ◌+◌, ◌*◌, ◌≤◌, ◌==◌, ◌||◌, List, [], ◌∷◌, Bool, true, false, not, cond, Option, None, Some, count_by, length, refl, ap, ◌∙◌, arith}
use Rattle.std.specs.List.{flat_map}
use Rattle.std.proofs.lemmas.List.{length-append, length-map}
use Rattle.std.proofs.lemmas.List.Sums.{sum_by-cons}
use Rattle.ic_term.specs.Tree.{Tree, name, agent, names, Pair, pair_names}
use Rattle.ic_term.specs.Configuration.{Configuration, configuration_names, occurrences}
use Rattle.ic_rules.specs.Rule.{Rule}
use Rattle.ic_settle.specs.Settling.{Choice, applied, first_choice, settled_in}
use Rattle.ic_round.specs.Firing.{fired}
use Rattle.ic_round.specs.Rounds.{iterate}
use Rattle.ic_meaning.specs.Circles.{circles, is_circle, is_name_in}

-- ---- names of circles

some_name : (x : ℕ) (ns : List ℕ) → not (occurrences x ns == 0) ≡ true → 1 ≤ length ns
some_name x [] there = absurd (cc there)
some_name x (n ∷ ns) there = omega arith

one_side : (t u : Tree) → is_name_in t u ≡ true → 2 ≤ length (names t) + length (names u)
one_side (name x) u there = let some = some_name x (names u) there in omega (arith, some)
one_side (agent s ts) u there = absurd (cc there)

circle_names : (p : Pair) → is_circle p ≡ true → 2 ≤ length (pair_names p)
circle_names p is = by (is_name_in p.left p.right) refl is
  where
    by : (b : Bool) → is_name_in p.left p.right ≡ b → (b || is_name_in p.right p.left) ≡ true → 2 ≤ length (pair_names p)
    by true here e = let all = length-append (names p.left) (names p.right) in let two = one_side p.left p.right here in omega (arith, all, two)
    by false here e = let all = length-append (names p.left) (names p.right) in let two = one_side p.right p.left e in omega (arith, all, two)

circles_in : (es : List Pair) → (count_by is_circle es ≤ length es) × (2 * count_by is_circle es ≤ length (flat_map pair_names es))
circles_in [] = (omega arith, omega arith)
circles_in (p ∷ es) = by (is_circle p) refl (circles_in es)
  where
    by : (b : Bool) → is_circle p ≡ b → (count_by is_circle es ≤ length es) × (2 * count_by is_circle es ≤ length (flat_map pair_names es))
        → (count_by is_circle (p ∷ es) ≤ length (p ∷ es)) × (2 * count_by is_circle (p ∷ es) ≤ length (flat_map pair_names (p ∷ es)))
    by true is rest =
        let count = sum_by-cons (λ q. cond (is_circle q) 1 0) p es in
        let one : cond {A = ℕ} (is_circle p) 1 0 ≡ 1 = ap (λ b. cond b 1 0) is in
        let all = length-append (pair_names p) (flat_map pair_names es) in
        let two = circle_names p is in
        let few = rest.0 in
        let named = rest.1 in
        (omega (arith, count, one, few), omega (arith, count, one, all, two, named))
    by false is rest =
        let count = sum_by-cons (λ q. cond (is_circle q) 1 0) p es in
        let none : cond {A = ℕ} (is_circle p) 1 0 ≡ 0 = ap (λ b. cond b 1 0) is in
        let all = length-append (pair_names p) (flat_map pair_names es) in
        let few = rest.0 in
        let named = rest.1 in
        (omega (arith, count, none, few), omega (arith, count, none, all, named))

pub few_circles : (c : Configuration) → circles c ≤ length c.equations
few_circles c = (circles_in c.equations).0

pub circles_named : (c : Configuration) → 2 * circles c ≤ length (configuration_names c)
circles_named c =
    let all = length-append (flat_map names c.interface) (flat_map pair_names c.equations) in
    let named = (circles_in c.equations).1 in
    omega (arith, all, named)

-- ---- the terms of the interface

settled_terms : (k : ℕ) (c : Configuration) → length (settled_in k c).interface ≡ length c.interface
settled_terms zero c = refl
settled_terms (suc k) c = at (first_choice c.interface [] c.equations) refl (λ d. settled_terms k d)
  where
    at : (found : Option Choice) → first_choice c.interface [] c.equations ≡ found
        → ((d : Configuration) → length (settled_in k d).interface ≡ length d.interface) → length (settled_in (suc k) c).interface ≡ length c.interface
    at None e rest = rw e refl
    at (Some choice) e rest = rw e (rest (applied c choice) ∙ length-map c.interface _)

pub as_many_terms : (rs : List Rule) (n : ℕ) (c : Configuration) → length (iterate rs n c).interface ≡ length c.interface
as_many_terms rs zero c = refl
as_many_terms rs (suc n) c = settled_terms (length (fired rs (iterate rs n c)).equations) (fired rs (iterate rs n c)) ∙ as_many_terms rs n c
