-- Lemmas: one element taken out of lists that differ in their order.
use Rattle.std.proofs.Common.{◌≡◌, ◌⊎◌, ◌&&◌, Bool, true, List, [], ◌∷◌, ◌++◌, refl, sym, ap, ◌∙◌, arith, inl, inr, subst as transport}
use Rattle.std.proofs.lemmas.List.Sorted.{IsPermutation-refl, IsPermutation-sym, IsPermutation-trans, IsPermutation-cons, IsPermutation-swap}
use Rattle.std.proofs.lemmas.Bool.{and_parts}
use Rattle.std.specs.Prelude.{IsPermutation}
use Rattle.std.specs.List.{list_all}
use Rattle.ic_settle.specs.lemmas.SubstitutionLaws.{and_both}
use Rattle.ic_reaching.specs.lemmas.Orders.{any_order}

-- the second list is the first one without this element
abbrev pub Removed : {X : Type 0} → X → List X → List X → Type 0
Removed x [] r = ⊥
Removed x (y ∷ ys) r = ((y ≡ x) × (r ≡ ys)) ⊎ ((s : List _) × Removed x ys s × (r ≡ y ∷ s))

abbrev Left : {X : Type 0} → X → List X → List X → Type 0
Left x fs r = (s : List _) × Removed x fs s × IsPermutation r s

abbrev LeftAlike : {X : Type 0} → List X → List X → Type 0
LeftAlike {X = X} es fs = IsPermutation es fs × ((x : X) (r : List X) → Removed x es r → Left x fs r)

pub two_first : {X : Type 0} (x y : X) (xs : List X) → IsPermutation (x ∷ y ∷ xs) (y ∷ x ∷ xs)
two_first x y xs = IsPermutation-swap (x ∷ y ∷ xs) (y ∷ x ∷ xs) 0 1 (omega arith) (omega arith) refl

moved_from : {X : Type 0} (r es fs : List X) → r ≡ es → IsPermutation es fs → IsPermutation r fs
moved_from r es fs is moved = transport (λ l. IsPermutation l fs) (sym is) moved

left_more : {X : Type 0} (x : X) (xs ys : List X) → LeftAlike xs ys → (p : X) (r : List X) → Removed p (x ∷ xs) r → Left p (x ∷ ys) r
left_more x xs ys alike p r (inl (same, is)) = (ys, inl (same, refl), moved_from r xs ys is alike.0)
left_more x xs ys alike p r (inr (rest, out, is)) =
    let later = alike.1 p rest out in
    (x ∷ later.0, inr (later.0, later.1, refl), moved_from r (x ∷ rest) (x ∷ later.0) is (IsPermutation-cons x rest later.0 later.2))

left_two : {X : Type 0} (x y : X) (xs : List X) (p : X) (r : List X) → Removed p (x ∷ y ∷ xs) r → Left p (y ∷ x ∷ xs) r
left_two x y xs p r (inl (same, is)) = (y ∷ xs, inr (xs, inl (same, refl), refl), moved_from r (y ∷ xs) (y ∷ xs) is (IsPermutation-refl (y ∷ xs)))
left_two x y xs p r (inr (rest, inl (same, out), is)) =
    (x ∷ xs, inl (same, refl), moved_from r (x ∷ xs) (x ∷ xs) (is ∙ ap (λ l. x ∷ l) out) (IsPermutation-refl (x ∷ xs)))
left_two x y xs p r (inr (rest, inr (more, later, out), is)) =
    (y ∷ x ∷ more, inr (x ∷ more, inr (more, later, refl), refl), moved_from r (x ∷ y ∷ more) (y ∷ x ∷ more) (is ∙ ap (λ l. x ∷ l) out) (two_first x y more))

left_alike : {X : Type 0} (es fs : List X) → IsPermutation es fs → LeftAlike es fs
left_alike {X = X} = any_order {X = X} LeftAlike (record {
  same = λ es. (IsPermutation-refl es, λ p r out. (r, out, IsPermutation-refl r));
  more = λ x xs ys alike. (IsPermutation-cons x xs ys alike.0, left_more x xs ys alike);
  first_two = λ x y xs. (two_first x y xs, left_two x y xs);
  in_turn = λ es fs gs one other. (
    IsPermutation-trans es fs gs one.0 other.0,
    λ p r out.
        let first = one.1 p r out in
        let second = other.1 p first.0 first.1 in
        (second.0, second.1, IsPermutation-trans r first.0 second.0 first.2 second.2),
  );
})

pub to_head : {X : Type 0} (x : X) (xs r : List X) → Removed x xs r → IsPermutation xs (x ∷ r)
to_head x [] r out = absurd out
to_head x (y ∷ ys) r (inl (same, is)) = transport (λ z. IsPermutation (y ∷ ys) (z ∷ r)) same (transport (λ l. IsPermutation (y ∷ ys) (y ∷ l)) (sym is) (IsPermutation-refl (y ∷ ys)))
to_head x (y ∷ ys) r (inr (s, out, is)) =
    transport (λ l. IsPermutation (y ∷ ys) (x ∷ l)) (sym is)
    (IsPermutation-trans (y ∷ ys) (y ∷ x ∷ s) (x ∷ y ∷ s) (IsPermutation-cons y ys (x ∷ s) (to_head x ys s out)) (two_first y x s))

without : {X : Type 0} (p : X) (xs ys : List X) → Left p (p ∷ ys) xs → IsPermutation xs ys
without p xs ys (s, inl (same, is), moved) = transport (IsPermutation xs) is moved
without p xs ys (s, inr (rest, out, is), moved) =
    IsPermutation-trans xs (p ∷ rest) ys (transport (IsPermutation xs) is moved) (IsPermutation-sym ys (p ∷ rest) (to_head p ys rest out))

pub same_first : {X : Type 0} (p : X) (xs ys : List X) → IsPermutation (p ∷ xs) (p ∷ ys) → IsPermutation xs ys
same_first p xs ys moved = without p xs ys ((left_alike (p ∷ xs) (p ∷ ys) moved).1 p xs (inl (refl, refl)))

-- ---- it stands in one of two parts

pub data InPart {X : Type 0} (x : X) (zs ps qs : List X) : Type 0 where
  in_first : (s : List X) → IsPermutation ps (x ∷ s) → IsPermutation zs (s ++ qs) → InPart x zs ps qs
  in_second : (s : List X) → IsPermutation qs (x ∷ s) → IsPermutation zs (ps ++ s) → InPart x zs ps qs

part_of : {X : Type 0} (x : X) (zs ps qs s : List X) → Removed x (ps ++ qs) s → IsPermutation zs s → InPart x zs ps qs
part_of x zs [] qs s out moved = in_second s (to_head x qs s out) moved
part_of x zs (y ∷ ps) qs s (inl (same, is)) moved =
    in_first ps (to_head x (y ∷ ps) ps (inl (same, refl))) (transport (IsPermutation zs) is moved)
part_of x zs (y ∷ ps) qs s (inr (t, out, is)) moved = by (part_of x t ps qs t out (IsPermutation-refl t))
  where
    by : InPart x t ps qs → InPart x zs (y ∷ ps) qs
    by (in_first u first rest) =
        in_first (y ∷ u) (IsPermutation-trans (y ∷ ps) (y ∷ x ∷ u) (x ∷ y ∷ u) (IsPermutation-cons y ps (x ∷ u) first) (two_first y x u))
        (IsPermutation-trans zs (y ∷ t) (y ∷ (u ++ qs)) (transport (IsPermutation zs) is moved) (IsPermutation-cons y t (u ++ qs) rest))
    by (in_second u second rest) =
        in_second u second (IsPermutation-trans zs (y ∷ t) (y ∷ (ps ++ u)) (transport (IsPermutation zs) is moved) (IsPermutation-cons y t (ps ++ u) rest))

pub in_part : {X : Type 0} (x : X) (zs ps qs : List X) → IsPermutation (x ∷ zs) (ps ++ qs) → InPart x zs ps qs
in_part x zs ps qs moved =
    let left = (left_alike (x ∷ zs) (ps ++ qs) moved).1 x zs (inl (refl, refl)) in
    part_of x zs ps qs left.0 left.1 left.2

-- ---- a test that all pass

pub all_moved : {X : Type 0} (test : X → Bool) (es fs : List X) → IsPermutation es fs → list_all test es ≡ true → list_all test fs ≡ true
all_moved {X = X} test = any_order {X = X} (λ es fs. list_all test es ≡ true → list_all test fs ≡ true) (record {
  same = λ es all. all;
  more = λ p es fs rest all. let both = and_parts (test p) (list_all test es) all in and_both both.0 (rest both.1);
  first_two = λ p q es all.
      let one = and_parts (test p) (test q && list_all test es) all in
      let two = and_parts (test q) (list_all test es) one.1 in
      and_both two.0 (and_both one.0 two.1);
  in_turn = λ es fs gs first second all. second (first all);
})
