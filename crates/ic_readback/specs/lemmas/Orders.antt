-- Lemmas: lists in another order.
use Rattle.std.proofs.Common.{ℕ, zero, suc, ◌<◌, List, [], ◌∷◌, ◌++◌, length, get_or, arith, append_assoc, subst as transport}
use Rattle.std.specs.Prelude.{IsPermutation}
use Rattle.std.specs.List.{flat_map, swap, AllByRecursion}
use Rattle.std.proofs.Math.ListN.{set}
use Rattle.std.proofs.lemmas.List.Edits.{swap_is}
use Rattle.std.proofs.lemmas.List.Sorted.{IsPermutation-keeps, IsPermutation-refl, IsPermutation-trans, IsPermutation-append_right, IsPermutation-append_left, IsPermutation-append_comm}

-- ---- what holds of lists that differ by neighbours in the other order, holds of all orders

pub record OfNeighbours (X : Type 0) (R : List X → List X → Type 0) : Type 0 where
  pub same : (xs : List X) → R xs xs
  pub more : (x : X) (xs ys : List X) → R xs ys → R (x ∷ xs) (x ∷ ys)
  pub first_two : (x y : X) (xs : List X) → R (x ∷ y ∷ xs) (y ∷ x ∷ xs)
  pub in_turn : (xs ys zs : List X) → R xs ys → R ys zs → R xs zs

-- the first one goes to a place, and what stood there to the front
to_place : {X : Type 0} (R : List X → List X → Type 0) → OfNeighbours X R → (d x : X) (xs : List X) (j : ℕ) → j < length xs → R (x ∷ xs) (get_or xs j d ∷ set xs j x)
to_place R is d x [] j low = absurd (omega (arith, low))
to_place R is d x (y ∷ ys) zero low = is.first_two x y ys
to_place R is d x (y ∷ ys) (suc j) low =
    let rest = to_place R is d x ys j (omega (arith, low)) in
    let there = get_or ys j d in
    let after = set ys j x in
    is.in_turn (x ∷ y ∷ ys) (y ∷ x ∷ ys) (there ∷ y ∷ after) (is.first_two x y ys)
    (is.in_turn (y ∷ x ∷ ys) (y ∷ there ∷ after) (there ∷ y ∷ after) (is.more y (x ∷ ys) (there ∷ after) rest) (is.first_two y there after))

exchange : {X : Type 0} (R : List X → List X → Type 0) → OfNeighbours X R → (d : X) (xs : List X) (i j : ℕ) → i < length xs → j < length xs
    → R xs (set (set xs i (get_or xs j d)) j (get_or xs i d))
exchange R is d [] i j low less = absurd (omega (arith, low))
exchange R is d (x ∷ xs) zero zero low less = is.same (x ∷ xs)
exchange R is d (x ∷ xs) zero (suc j) low less = to_place R is d x xs j (omega (arith, less))
exchange R is d (x ∷ xs) (suc i) zero low less = to_place R is d x xs i (omega (arith, low))
exchange R is d (x ∷ xs) (suc i) (suc j) low less =
    is.more x xs (set (set xs i (get_or xs j d)) j (get_or xs i d)) (exchange R is d xs i j (omega (arith, low)) (omega (arith, less)))

one_exchange : {X : Type 0} (R : List X → List X → Type 0) → OfNeighbours X R → (xs : List X) (i j : ℕ) → i < length xs → j < length xs → R xs (swap xs i j)
one_exchange R is [] i j low less = absurd (omega (arith, low))
one_exchange R is (x ∷ xs) i j low less = transport (R (x ∷ xs)) (swap_is (x ∷ xs) i j x low less) (exchange R is x (x ∷ xs) i j low less)

pub any_order : {X : Type 0} (R : List X → List X → Type 0) → OfNeighbours X R → (xs ys : List X) → IsPermutation xs ys → R xs ys
any_order R is xs ys moved =
    IsPermutation-keeps xs (R xs) (is.same xs) (λ l i j low less before. is.in_turn xs l (swap l i j) before (one_exchange R is l i j low less)) ys moved

-- what a function gives for each
pub flat_order : {X Y : Type 0} (f : X → List Y) (xs ys : List X) → IsPermutation xs ys → IsPermutation (flat_map f xs) (flat_map f ys)
flat_order {X = X} f = any_order {X = X} (λ xs ys. IsPermutation (flat_map f xs) (flat_map f ys)) (record {
  same = λ xs. IsPermutation-refl (flat_map f xs);
  more = λ x xs ys moved. IsPermutation-append_right (f x) (flat_map f xs) (flat_map f ys) moved;
  first_two = λ x y xs. two_parts (f x) (f y) (flat_map f xs);
  in_turn = λ xs ys zs first second. IsPermutation-trans (flat_map f xs) (flat_map f ys) (flat_map f zs) first second;
})
  where
    two_parts : {Y : Type 0} (a b c : List Y) → IsPermutation (a ++ (b ++ c)) (b ++ (a ++ c))
    two_parts a b c =
        transport (λ l. IsPermutation l (b ++ (a ++ c))) (append_assoc a b c)
        (transport (IsPermutation ((a ++ b) ++ c)) (append_assoc b a c)
        (IsPermutation-append_left c (a ++ b) (b ++ a) (IsPermutation-append_comm a b)))

-- what holds of each
pub all_order : {X : Type 0} (P : X → Type 0) (xs ys : List X) → IsPermutation xs ys → AllByRecursion P xs → AllByRecursion P ys
all_order {X = X} P = any_order {X = X} (λ xs ys. AllByRecursion P xs → AllByRecursion P ys) (record {
  same = λ xs all. all;
  more = λ x xs ys rest all. (all.0, rest all.1);
  first_two = λ x y xs all. (all.1.0, (all.0, all.1.1));
  in_turn = λ xs ys zs first second all. second (first all);
})
