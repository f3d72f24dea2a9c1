-- Lemmas: lists in another order.
use Rattle.std.proofs.Common.{◌≡◌, ℕ, zero, suc, ◌<◌, List, [], ◌∷◌, ◌++◌, length, get_or, refl, ap, ◌∙◌, arith, subst as transport}
use Rattle.std.specs.Prelude.{IsPermutation}
use Rattle.std.specs.List.{flat_map, swap}
use Rattle.std.proofs.Math.ListN.{set}
use Rattle.std.proofs.lemmas.List.Edits.{swap_is}
use Rattle.std.proofs.lemmas.List.Sorted.{IsPermutation-keeps, IsPermutation-refl, IsPermutation-cons, IsPermutation-trans, IsPermutation-swap}
use Rattle.ic_term.specs.Tree.{Pair, pair_names}
use Rattle.ic_term.specs.Configuration.{Configuration, occurrences}
use Rattle.ic_settle.specs.lemmas.SubstitutionLaws.{occurrences-append}
use Rattle.ic_confluence.specs.Kinds.{Kind, naming, firing}
use Rattle.ic_confluence.specs.Sameness.{itself, Rearranged, nothing, kept, swapped, one_by_one, Same, rearranging}
use Rattle.ic_reaching.specs.Reaching.{rules_fired}

-- ---- what holds of lists that differ by neighbours in the other order, holds of all orders

pub record OfNeighbours (X : Type 0) (R : List X → List X → Type 0) : Type 0 where
  pub same : (xs : List X) → R xs xs
  pub more : (x : X) (xs ys : List X) → R xs ys → R (x ∷ xs) (x ∷ ys)
  pub first_two : (x y : X) (xs : List X) → R (x ∷ y ∷ xs) (y ∷ x ∷ xs)
  pub in_turn : (xs ys zs : List X) → R xs ys → R ys zs → R xs zs

-- the first one goes to a place, and what stood there to the front
to_place : {X : Type 0} (R : List X → List X → Type 0) → OfNeighbours X R → (d x : X) (xs : List X) (j : ℕ) → j < length xs → R (x ∷ xs) (get_or xs j d ∷ set xs j x)
to_place R is d x [] j low = absurd (omega (arith, low))
to_place R is d x (y ∷ ys) zero low = is.first_two x y ys
to_place R is d x (y ∷ ys) (suc j) low =
    let rest = to_place R is d x ys j (omega (arith, low)) in
    let there = get_or ys j d in
    let after = set ys j x in
    is.in_turn (x ∷ y ∷ ys) (y ∷ x ∷ ys) (there ∷ y ∷ after) (is.first_two x y ys)
    (is.in_turn (y ∷ x ∷ ys) (y ∷ there ∷ after) (there ∷ y ∷ after) (is.more y (x ∷ ys) (there ∷ after) rest) (is.first_two y there after))

exchange : {X : Type 0} (R : List X → List X → Type 0) → OfNeighbours X R → (d : X) (xs : List X) (i j : ℕ) → i < length xs → j < length xs
    → R xs (set (set xs i (get_or xs j d)) j (get_or xs i d))
exchange R is d [] i j low less = absurd (omega (arith, low))
exchange R is d (x ∷ xs) zero zero low less = is.same (x ∷ xs)
exchange R is d (x ∷ xs) zero (suc j) low less = to_place R is d x xs j (omega (arith, less))
exchange R is d (x ∷ xs) (suc i) zero low less = to_place R is d x xs i (omega (arith, low))
exchange R is d (x ∷ xs) (suc i) (suc j) low less =
    is.more x xs (set (set xs i (get_or xs j d)) j (get_or xs i d)) (exchange R is d xs i j (omega (arith, low)) (omega (arith, less)))

one_exchange : {X : Type 0} (R : List X → List X → Type 0) → OfNeighbours X R → (xs : List X) (i j : ℕ) → i < length xs → j < length xs → R xs (swap xs i j)
one_exchange R is [] i j low less = absurd (omega (arith, low))
one_exchange R is (x ∷ xs) i j low less = transport (R (x ∷ xs)) (swap_is (x ∷ xs) i j x low less) (exchange R is x (x ∷ xs) i j low less)

pub any_order : {X : Type 0} (R : List X → List X → Type 0) → OfNeighbours X R → (xs ys : List X) → IsPermutation xs ys → R xs ys
any_order R is xs ys moved =
    IsPermutation-keeps xs (R xs) (is.same xs) (λ l i j low less before. is.in_turn xs l (swap l i j) before (one_exchange R is l i j low less)) ys moved

-- ---- equations

pub rearranged_itself : (es : List Pair) → Rearranged es es
rearranged_itself [] = nothing
rearranged_itself (p ∷ es) = kept p p es es (itself p) (rearranged_itself es)

pub rearranged : (es fs : List Pair) → IsPermutation es fs → Rearranged es fs
rearranged = any_order Rearranged (record {
  same = rearranged_itself;
  more = λ p es fs r. kept p p es fs (itself p) r;
  first_two = swapped;
  in_turn = one_by_one;
})

pub permuted : (c : Configuration) (es : List Pair) → IsPermutation c.equations es → Same c (record c { equations = es })
permuted c es moved = rearranging c (record c { equations = es }) (record { equations = rearranged c.equations es moved; result = refl })

abbrev SameCounts : List Pair → List Pair → Type 0
SameCounts es fs = (n : ℕ) → occurrences n (flat_map pair_names es) ≡ occurrences n (flat_map pair_names fs)

-- how often names occur
pub permuted_counts : (es fs : List Pair) → IsPermutation es fs → SameCounts es fs
permuted_counts = any_order SameCounts (record {
  same = λ es n. refl;
  more = λ p es fs same n.
      let one = occurrences-append n (pair_names p) (flat_map pair_names es) in
      let other = occurrences-append n (pair_names p) (flat_map pair_names fs) in
      let rest = same n in
      omega (arith, one, other, rest);
  first_two = λ p q es n.
      let a = occurrences-append n (pair_names p) (pair_names q ++ flat_map pair_names es) in
      let b = occurrences-append n (pair_names q) (flat_map pair_names es) in
      let c = occurrences-append n (pair_names q) (pair_names p ++ flat_map pair_names es) in
      let d = occurrences-append n (pair_names p) (flat_map pair_names es) in
      omega (arith, a, b, c, d);
  in_turn = λ es fs gs first second n. first n ∙ second n;
})

-- ---- the rules by which steps fire

more_fired : (k : Kind) (ks ls : List Kind) → IsPermutation (rules_fired ks) (rules_fired ls) → IsPermutation (rules_fired (k ∷ ks)) (rules_fired (k ∷ ls))
more_fired naming ks ls same = same
more_fired (firing i) ks ls same = IsPermutation-cons i (rules_fired ks) (rules_fired ls) same

two_first : (i j : ℕ) (is : List ℕ) → IsPermutation (i ∷ j ∷ is) (j ∷ i ∷ is)
two_first i j is = IsPermutation-swap (i ∷ j ∷ is) (j ∷ i ∷ is) 0 1 (omega arith) (omega arith) refl

two_fired : (k l : Kind) (ks : List Kind) → IsPermutation (rules_fired (k ∷ l ∷ ks)) (rules_fired (l ∷ k ∷ ks))
two_fired naming naming ks = IsPermutation-refl (rules_fired ks)
two_fired naming (firing j) ks = IsPermutation-refl (j ∷ rules_fired ks)
two_fired (firing i) naming ks = IsPermutation-refl (i ∷ rules_fired ks)
two_fired (firing i) (firing j) ks = two_first i j (rules_fired ks)

abbrev FiredAlike : List Kind → List Kind → Type 0
FiredAlike ks ls = IsPermutation (rules_fired ks) (rules_fired ls)

pub fired_alike : (ks ls : List Kind) → IsPermutation ks ls → IsPermutation (rules_fired ks) (rules_fired ls)
fired_alike = any_order FiredAlike (record {
  same = λ ks. IsPermutation-refl (rules_fired ks);
  more = more_fired;
  first_two = two_fired;
  in_turn = λ ks ls ms first second. IsPermutation-trans (rules_fired ks) (rules_fired ls) (rules_fired ms) first second;
})

pub rules_fired-append : (ks ls : List Kind) → rules_fired (ks ++ ls) ≡ rules_fired ks ++ rules_fired ls
rules_fired-append [] ls = refl
rules_fired-append (naming ∷ ks) ls = rules_fired-append ks ls
rules_fired-append (firing i ∷ ks) ls = ap (λ is. i ∷ is) (rules_fired-append ks ls)
