-- Lemmas: lists of equations in another order.
use Rattle.std.proofs.Common.{◌≡◌, ◌&&◌, List, [], ◌∷◌, ◌++◌, Bool, true, false, cond, not, Option, None, Some, is_none, is_some, refl, sym, ap, ◌∙◌, append_assoc, arith, inl, inr, subst as transport}
use Rattle.std.specs.Prelude.{IsPermutation, filter}
use Rattle.std.specs.List.{list_all}
use Rattle.std.proofs.lemmas.Bool.{and_parts}
use Rattle.ic_settle.specs.lemmas.SubstitutionLaws.{and_both}
use Rattle.std.proofs.lemmas.List.Sorted.{IsPermutation-refl, IsPermutation-sym, IsPermutation-trans, IsPermutation-cons, IsPermutation-swap, IsPermutation-middle, IsPermutation-append_left, IsPermutation-append_comm}
use Rattle.ic_term.specs.Tree.{Pair}
use Rattle.ic_confluence.specs.lemmas.Replacing.{Replaced, place_of}
use Rattle.ic_reaching.specs.lemmas.Orders.{any_order}

-- ---- one equation taken out of both

-- what is left of one list without an equation is what is left of the other
abbrev Left : Pair → List Pair → List Pair → Type 0
Left p fs r = (s : List Pair) × Replaced p [] fs s × IsPermutation r s

abbrev LeftAlike : List Pair → List Pair → Type 0
LeftAlike es fs = IsPermutation es fs × ((p : Pair) (r : List Pair) → Replaced p [] es r → Left p fs r)

two_first : (x y : Pair) (xs : List Pair) → IsPermutation (x ∷ y ∷ xs) (y ∷ x ∷ xs)
two_first x y xs = IsPermutation-swap (x ∷ y ∷ xs) (y ∷ x ∷ xs) 0 1 (omega arith) (omega arith) refl

moved_from : (r es fs : List Pair) → r ≡ es → IsPermutation es fs → IsPermutation r fs
moved_from r es fs is moved = transport (λ l. IsPermutation l fs) (sym is) moved

left_more : (x : Pair) (xs ys : List Pair) → LeftAlike xs ys → (p : Pair) (r : List Pair) → Replaced p [] (x ∷ xs) r → Left p (x ∷ ys) r
left_more x xs ys alike p r (inl (same, is)) = (ys, inl (same, refl), moved_from r xs ys is alike.0)
left_more x xs ys alike p r (inr (rest, out, is)) =
    let later = alike.1 p rest out in
    (x ∷ later.0, inr (later.0, later.1, refl), moved_from r (x ∷ rest) (x ∷ later.0) is (IsPermutation-cons x rest later.0 later.2))

left_two : (x y : Pair) (xs : List Pair) (p : Pair) (r : List Pair) → Replaced p [] (x ∷ y ∷ xs) r → Left p (y ∷ x ∷ xs) r
left_two x y xs p r (inl (same, is)) = (y ∷ xs, inr (xs, inl (same, refl), refl), moved_from r (y ∷ xs) (y ∷ xs) is (IsPermutation-refl (y ∷ xs)))
left_two x y xs p r (inr (rest, inl (same, out), is)) =
    (x ∷ xs, inl (same, refl), moved_from r (x ∷ xs) (x ∷ xs) (is ∙ ap (λ l. x ∷ l) out) (IsPermutation-refl (x ∷ xs)))
left_two x y xs p r (inr (rest, inr (more, later, out), is)) =
    (y ∷ x ∷ more, inr (x ∷ more, inr (more, later, refl), refl), moved_from r (x ∷ y ∷ more) (y ∷ x ∷ more) (is ∙ ap (λ l. x ∷ l) out) (two_first x y more))

left_alike : (es fs : List Pair) → IsPermutation es fs → LeftAlike es fs
left_alike = any_order LeftAlike (record {
  same = λ es. (IsPermutation-refl es, λ p r out. (r, out, IsPermutation-refl r));
  more = λ x xs ys alike. (IsPermutation-cons x xs ys alike.0, left_more x xs ys alike);
  first_two = λ x y xs. (two_first x y xs, left_two x y xs);
  in_turn = λ es fs gs one other. (
    IsPermutation-trans es fs gs one.0 other.0,
    λ p r out.
        let first = one.1 p r out in
        let second = other.1 p first.0 first.1 in
        (second.0, second.1, IsPermutation-trans r first.0 second.0 first.2 second.2),
  );
})

without : (p : Pair) (xs ys : List Pair) → Left p (p ∷ ys) xs → IsPermutation xs ys
without p xs ys (s, inl (same, is), moved) = transport (IsPermutation xs) is moved
without p xs ys (s, inr (rest, out, is), moved) =
    let at = place_of p [] ys rest out in
    let all : IsPermutation ys (p ∷ rest) =
    transport (λ l. IsPermutation l (p ∷ rest)) (sym at.given)
    (transport (λ l. IsPermutation (at.before ++ p ∷ at.after) (p ∷ l)) (sym at.result) (IsPermutation-middle at.before p at.after)) in
    IsPermutation-trans xs (p ∷ rest) ys (transport (IsPermutation xs) is moved) (IsPermutation-sym ys (p ∷ rest) all)

pub same_first : (p : Pair) (xs ys : List Pair) → IsPermutation (p ∷ xs) (p ∷ ys) → IsPermutation xs ys
same_first p xs ys moved = without p xs ys ((left_alike (p ∷ xs) (p ∷ ys) moved).1 p xs (inl (refl, refl)))

-- ---- some equations after others

pub behind : {X : Type 0} (out front back : List X) → IsPermutation ((out ++ front) ++ back) (front ++ (out ++ back))
behind out front back =
    transport (IsPermutation ((out ++ front) ++ back)) (append_assoc front out back)
    (IsPermutation-append_left back (out ++ front) (front ++ out) (IsPermutation-append_comm out front))

pub behind_too : {X : Type 0} (out front back : List X) → IsPermutation (out ++ (front ++ back)) (front ++ (out ++ back))
behind_too out front back = transport (λ l. IsPermutation l (front ++ (out ++ back))) (append_assoc out front back) (behind out front back)

-- ---- those of a list that pass a test

pub other_test : {X : Type 0} (o : Option X) → is_none o ≡ not (is_some o)
other_test None = refl
other_test (Some x) = refl

passed : {X : Type 0} (test : X → Bool) (x : X) (rest : List X) (b : Bool) → test x ≡ b → list_all test rest ≡ true → list_all test (cond b (x ∷ rest) rest) ≡ true
passed test x rest true is all = rw is all
passed test x rest false is all = all

pub filter_all : {X : Type 0} (test : X → Bool) (xs : List X) → list_all test (filter test xs) ≡ true
filter_all test [] = refl
filter_all test (x ∷ xs) = passed test x (filter test xs) (test x) refl (filter_all test xs)

-- and of the same ones in another order
pub all_moved : (test : Pair → Bool) (es fs : List Pair) → IsPermutation es fs → list_all test es ≡ true → list_all test fs ≡ true
all_moved test = any_order (λ es fs. list_all test es ≡ true → list_all test fs ≡ true) (record {
  same = λ es all. all;
  more = λ p es fs rest all. let both = and_parts (test p) (list_all test es) all in and_both both.0 (rest both.1);
  first_two = λ p q es all.
      let one = and_parts (test p) (test q && list_all test es) all in
      let two = and_parts (test q) (list_all test es) one.1 in
      and_both two.0 (and_both one.0 two.1);
  in_turn = λ es fs gs first second all. second (first all);
})
