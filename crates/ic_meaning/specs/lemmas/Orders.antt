-- Lemmas: lists in another order.
use Rattle.std.proofs.Common.{List, [], ◌∷◌, ◌++◌, append_assoc, subst as transport}
use Rattle.std.specs.Prelude.{IsPermutation}
use Rattle.std.specs.List.{flat_map, AllByRecursion}
use Rattle.std.proofs.lemmas.List.Sorted.{IsPermutation-refl, IsPermutation-trans, IsPermutation-append_right, IsPermutation-append_left, IsPermutation-append_comm}
use Rattle.ic_reaching.specs.lemmas.Orders.{any_order}

-- what a function gives for each
pub flat_order : {X Y : Type 0} (f : X → List Y) (xs ys : List X) → IsPermutation xs ys → IsPermutation (flat_map f xs) (flat_map f ys)
flat_order {X = X} f = any_order {X = X} (λ xs ys. IsPermutation (flat_map f xs) (flat_map f ys)) (record {
  same = λ xs. IsPermutation-refl (flat_map f xs);
  more = λ x xs ys moved. IsPermutation-append_right (f x) (flat_map f xs) (flat_map f ys) moved;
  first_two = λ x y xs. two_parts (f x) (f y) (flat_map f xs);
  in_turn = λ xs ys zs first second. IsPermutation-trans (flat_map f xs) (flat_map f ys) (flat_map f zs) first second;
})
  where
    two_parts : {Y : Type 0} (a b c : List Y) → IsPermutation (a ++ (b ++ c)) (b ++ (a ++ c))
    two_parts a b c =
        transport (λ l. IsPermutation l (b ++ (a ++ c))) (append_assoc a b c)
        (transport (IsPermutation ((a ++ b) ++ c)) (append_assoc b a c)
        (IsPermutation-append_left c (a ++ b) (b ++ a) (IsPermutation-append_comm a b)))

-- ---- what holds of each

pub all_front : {X : Type 0} (P : X → Type 0) (xs ys : List X) → AllByRecursion P (xs ++ ys) → AllByRecursion P xs
all_front P [] ys all = tt
all_front P (x ∷ xs) ys all = (all.0, all_front P xs ys all.1)

pub all_back : {X : Type 0} (P : X → Type 0) (xs ys : List X) → AllByRecursion P (xs ++ ys) → AllByRecursion P ys
all_back P [] ys all = all
all_back P (x ∷ xs) ys all = all_back P xs ys all.1
