-- Lemmas: what rearranged equations have in common, and how they take a term for a name.
use Rattle.std.proofs.Common.{◌≡◌, ℕ, ◌+◌, ◌*◌, ◌≤◌, ◌==◌, List, [], ◌∷◌, Bool, true, false, cond, map, refl, sym, ap, ◌∙◌, arith, inl, inr, subst as transport}
use Rattle.std.proofs.lemmas.Bool.{true≢false}
use Rattle.std.specs.Cmp.{unsigned_Decides}
use Rattle.std.specs.List.{flat_map}
use Rattle.ic_term.specs.Tree.{Tree, name, names, Pair, pair_names}
use Rattle.ic_term.specs.Configuration.{occurrences}
use Rattle.ic_settle.specs.Settling.{Binding, subst, subst_pair, Binds}
use Rattle.ic_settle.specs.lemmas.SubstitutionLaws.{occurrences-cons}
use Rattle.ic_settle.specs.lemmas.StepLaws.{itself_once as alone_itself}
use Rattle.ic_confluence.specs.Sameness.{turned, Rotated, Alike, itself, exchanged, rotated, in_turn, Rearranged, nothing, kept, swapped, one_by_one}
use Rattle.ic_confluence.specs.lemmas.Counts.{alone_other, apart_sym, in_pair, in_more, occurrences-put, occurrences-gone}
use Rattle.ic_confluence.specs.lemmas.Puts.{subst-subst}
use Rattle.ic_confluence.specs.lemmas.Equivalence.{Rearranged-refl}
use Rattle.ic_confluence.specs.lemmas.Replacing.{Replaced}

-- ---- how often names occur

pub one_put : (l m o k : ℕ) → l ≡ m + o * k → o ≡ 1 → l ≡ m + k
one_put l m o k e f = let g = rw f at e in omega (arith, g)

-- a term put for a name that occurs once
pub put_once : (n x : ℕ) (u t : Tree) → occurrences x (names t) ≡ 1 → (x == n) ≡ false
    → occurrences n (names (subst x u t)) ≡ occurrences n (names t) + occurrences n (names u)
put_once n x u t once apart = one_put _ (occurrences n (names t)) (occurrences x (names t)) (occurrences n (names u)) (occurrences-put n x u t apart) once

one_gone : (l o k : ℕ) → l ≡ o * k → o ≡ 1 → l ≡ k
one_gone l o k e f = let g = rw f at e in omega (arith, g)

pub gone_once : (x : ℕ) (u t : Tree) → occurrences x (names t) ≡ 1 → occurrences x (names (subst x u t)) ≡ occurrences x (names u)
gone_once x u t once = one_gone _ (occurrences x (names t)) (occurrences x (names u)) (occurrences-gone x u t) once

abbrev circle : ℕ → Tree → Tree → Pair
circle x v w = record { left = name x; right = subst x v w }

-- a circle holds its name twice
circle_twice : (x : ℕ) (v w : Tree) → occurrences x (names v) ≡ 1 → occurrences x (names w) ≡ 1 → occurrences x (pair_names (circle x v w)) ≡ 2
circle_twice x v w inner outer =
    let both = in_pair x (circle x v w) in
    let left = alone_itself x in
    let right = gone_once x v w outer in
    omega (arith, both, left, right, inner)

circle_counts : (n x : ℕ) (v w : Tree) → occurrences x (names v) ≡ 1 → occurrences x (names w) ≡ 1 → (b : Bool) → (x == n) ≡ b
    → occurrences n (pair_names (circle x v w)) ≡ occurrences n (pair_names (circle x w v))
circle_counts n x v w inner outer true e =
    let P : ℕ → Type 0 = λ k. occurrences k (pair_names (circle x v w)) ≡ occurrences k (pair_names (circle x w v)) in
    transport P ((unsigned_Decides x n).0 e) (circle_twice x v w inner outer ∙ sym (circle_twice x w v outer inner))
circle_counts n x v w inner outer false e =
    let one = in_pair n (circle x v w) in
    let other = in_pair n (circle x w v) in
    let first = put_once n x v w outer e in
    let second = put_once n x w v inner e in
    omega (arith, one, other, first, second)

pub alike_counts : (n : ℕ) (p q : Pair) → Alike p q → occurrences n (pair_names p) ≡ occurrences n (pair_names q)
alike_counts n p q (itself r) = refl
alike_counts n p q (exchanged r) = let one = in_pair n r in let other = in_pair n (turned r) in omega (arith, one, other)
alike_counts n p q (rotated r s is) =
    ap (λ z. occurrences n (pair_names z)) is.given
    ∙ (circle_counts n is.cut is.inner is.outer is.once_inner is.once_outer (is.cut == n) refl ∙ ap (λ z. occurrences n (pair_names z)) (sym is.result))
alike_counts n p q (in_turn r s t first second) = alike_counts n r s first ∙ alike_counts n s t second

pub arranged_counts : (n : ℕ) (es fs : List Pair) → Rearranged es fs → occurrences n (flat_map pair_names es) ≡ occurrences n (flat_map pair_names fs)
arranged_counts n es fs nothing = refl
arranged_counts n es fs (kept p q ps qs alike rest) =
    let one = in_more n p ps in
    let other = in_more n q qs in
    let here = alike_counts n p q alike in
    let later = arranged_counts n ps qs rest in
    omega (arith, one, other, here, later)
arranged_counts n es fs (swapped p q ps) =
    let a = in_more n p (q ∷ ps) in
    let b = in_more n q ps in
    let c = in_more n q (p ∷ ps) in
    let d = in_more n p ps in
    omega (arith, a, b, c, d)
arranged_counts n es fs (one_by_one ps qs rs first second) = arranged_counts n ps qs first ∙ arranged_counts n qs rs second

-- ---- an equation among rearranged ones

-- an equation alike stands there, and the others are rearranged
pub record FoundAlike (p : Pair) (rest fs : List Pair) : Type 0 where
  pub equation : Pair
  pub others : List Pair
  pub at : Replaced equation [] fs others
  pub alike : Alike p equation
  pub rest_arranged : Rearranged rest others

pub found_alike : (p : Pair) (es fs rest : List Pair) → Rearranged es fs → Replaced p [] es rest → FoundAlike p rest fs
found_alike p es fs rest nothing r = absurd r
found_alike p es fs rest (kept a b ps qs alike arranged) (inl (same, is)) =
    let P : Pair → Type 0 = λ h. Alike h b in
    let Q : List Pair → Type 0 = λ l. Rearranged l qs in
    record { equation = b; others = qs; at = inl (refl, refl); alike = transport P same alike; rest_arranged = transport Q (sym is) arranged }
found_alike p es fs rest (kept a b ps qs alike arranged) (inr (more, r, is)) =
    let found = found_alike p ps qs more arranged r in
    let Q : List Pair → Type 0 = λ l. Rearranged l (b ∷ found.others) in
    record {
      equation = found.equation;
      others = b ∷ found.others;
      at = inr (found.others, found.at, refl);
      alike = found.alike;
      rest_arranged = transport Q (sym is) (kept a b more found.others alike found.rest_arranged);
    }
found_alike p es fs rest (swapped a b ps) (inl (same, is)) =
    let P : Pair → Type 0 = λ h. Alike h a in
    let Q : List Pair → Type 0 = λ l. Rearranged l (b ∷ ps) in
    record { equation = a; others = b ∷ ps; at = inr (ps, inl (refl, refl), refl); alike = transport P same (itself a); rest_arranged = transport Q (sym is) (Rearranged-refl (b ∷ ps)) }
found_alike p es fs rest (swapped a b ps) (inr (more, inl (same, here), is)) =
    let P : Pair → Type 0 = λ h. Alike h b in
    let Q : List Pair → Type 0 = λ l. Rearranged l (a ∷ ps) in
    record {
      equation = b;
      others = a ∷ ps;
      at = inl (refl, refl);
      alike = transport P same (itself b);
      rest_arranged = transport Q (sym (is ∙ ap (λ l. a ∷ l) here)) (Rearranged-refl (a ∷ ps));
    }
found_alike p es fs rest (swapped a b ps) (inr (more, inr (others, r, here), is)) =
    let Q : List Pair → Type 0 = λ l. Rearranged l (b ∷ a ∷ others) in
    record {
      equation = p;
      others = b ∷ a ∷ others;
      at = inr (a ∷ others, inr (others, r, refl), refl);
      alike = itself p;
      rest_arranged = transport Q (sym (is ∙ ap (λ l. a ∷ l) here)) (swapped a b others);
    }
found_alike p es fs rest (one_by_one ps qs rs first second) r =
    let one = found_alike p ps qs rest first r in
    let two = found_alike one.equation qs rs one.others second one.at in
    record {
      equation = two.equation;
      others = two.others;
      at = two.at;
      alike = in_turn p one.equation two.equation one.alike two.alike;
      rest_arranged = one_by_one rest one.others two.others one.rest_arranged two.rest_arranged;
    }

-- ---- an equation that binds a name which occurs in it once

only_name : (z y : ℕ) → occurrences z (y ∷ []) ≡ 1 → (b : Bool) → (y == z) ≡ b → y ≡ z
only_name z y once true e = (unsigned_Decides y z).0 e
only_name z y once false e = let none = alone_other z y e in absurd (omega (arith, none, once))

circle_binds : (p q : Pair) (b : Binding) (is : Rotated p q) → Binds p b → b.name ≡ is.cut
circle_binds p q b is (inl e) =
    let same : name b.name ≡ name is.cut = ap (λ (r : Pair). r.left) (sym e ∙ is.given) in
    let P : Tree → Type 0 = λ t. occurrences is.cut (names t) ≡ 1 in
    only_name is.cut b.name (transport P (sym same) (alone_itself is.cut)) (b.name == is.cut) refl
circle_binds p q b is (inr e) =
    let same : name b.name ≡ subst is.cut is.inner is.outer = ap (λ (r : Pair). r.right) (sym e ∙ is.given) in
    let P : Tree → Type 0 = λ t. occurrences is.cut (names t) ≡ 1 in
    only_name is.cut b.name (transport P (sym same) (gone_once is.cut is.inner is.outer is.once_outer ∙ is.once_inner)) (b.name == is.cut) refl

pub rotated_twice : (p q : Pair) (is : Rotated p q) → occurrences is.cut (pair_names p) ≡ 2
rotated_twice p q is = ap (λ z. occurrences is.cut (pair_names z)) is.given ∙ circle_twice is.cut is.inner is.outer is.once_inner is.once_outer

pub alike_binds : (p q : Pair) (b : Binding) → Alike p q → Binds p b → occurrences b.name (pair_names p) ≤ 1 → Binds q b
alike_binds p q b (itself r) side few = side
alike_binds p q b (exchanged r) (inl e) few = inr (ap turned e)
alike_binds p q b (exchanged r) (inr e) few = inl (ap turned e)
alike_binds p q b (rotated r s is) side few =
    let same = circle_binds r s b is side in
    let two = rotated_twice r s is in
    let equal = ap (λ k. occurrences k (pair_names r)) same in
    absurd (omega (arith, two, equal, few))
alike_binds p q b (in_turn r s t first second) side few =
    let equal = alike_counts b.name r s first in
    alike_binds s t b second (alike_binds r s b first side few) (omega (arith, equal, few))

-- ---- a term put for a name in rearranged equations

-- the name and its term, and these names: none of them more than twice
abbrev pub Room : ℕ → Tree → List ℕ → Type 0
Room x t ns = (n : ℕ) → occurrences n ns + occurrences n (x ∷ names t) ≤ 2

one_name : (x z : ℕ) (t : Tree) (b : Bool) → (z == x) ≡ b → b ≡ false → cond (z == x) t (name z) ≡ name z
one_name x z t true e f = absurd (true≢false f)
one_name x z t false e f = rw e refl

put_rotated : (x : ℕ) (t : Tree) (p q : Pair) → Rotated p q → Room x t (pair_names p) → Rotated (subst_pair x t p) (subst_pair x t q)
put_rotated x t p q is room =
    let z = is.cut in
    let two = rotated_twice p q is in
    let bound = room z in
    let split = occurrences-cons z x (names t) in
    let none : occurrences z (names t) ≡ 0 = omega (arith, two, bound, split) in
    let apart = apart_where z x (omega (arith, two, bound, split)) (x == z) refl in
    let other = apart_sym x z apart in
    record {
      cut = z;
      inner = subst x t is.inner;
      outer = subst x t is.outer;
      once_inner = stays z x t is.inner apart none is.once_inner;
      once_outer = stays z x t is.outer apart none is.once_outer;
      given = ap (subst_pair x t) is.given ∙ circles z x t is.inner is.outer other apart none;
      result = ap (subst_pair x t) is.result ∙ circles z x t is.outer is.inner other apart none;
    }
  where
    apart_where : (z x : ℕ) → ◌≡◌ {A = ℕ} (cond (x == z) 1 0) 0 → (b : Bool) → (x == z) ≡ b → (x == z) ≡ false
    apart_where z x none true e = let bad = rw e at none in absurd (omega (arith, bad))
    apart_where z x none false e = e

    times_none : (l m o k : ℕ) → l ≡ m + o * k → k ≡ 0 → m ≡ 1 → l ≡ 1
    times_none l m o k e f g = let h = rw (f, g) at e in omega (arith, h)

    stays : (z x : ℕ) (t v : Tree) → (x == z) ≡ false → occurrences z (names t) ≡ 0 → occurrences z (names v) ≡ 1 → occurrences z (names (subst x t v)) ≡ 1
    stays z x t v apart none once = times_none _ (occurrences z (names v)) (occurrences x (names v)) (occurrences z (names t)) (occurrences-put z x t v apart) none once

    circles : (z x : ℕ) (t v w : Tree) → (z == x) ≡ false → (x == z) ≡ false → occurrences z (names t) ≡ 0
        → subst_pair x t (circle z v w) ≡ circle z (subst x t v) (subst x t w)
    circles z x t v w other apart none = λ i. record { left = one_name x z t (z == x) refl other i; right = subst-subst x z t v w apart none i }

pub put_alike : (x : ℕ) (t : Tree) (p q : Pair) → Alike p q → Room x t (pair_names p) → Alike (subst_pair x t p) (subst_pair x t q)
put_alike x t p q (itself r) room = itself (subst_pair x t r)
put_alike x t p q (exchanged r) room = exchanged (subst_pair x t r)
put_alike x t p q (rotated r s is) room = rotated (subst_pair x t r) (subst_pair x t s) (put_rotated x t r s is room)
put_alike x t p q (in_turn r s u first second) room =
    in_turn (subst_pair x t r) (subst_pair x t s) (subst_pair x t u) (put_alike x t r s first room)
    (put_alike x t s u second (λ n. let equal = alike_counts n r s first in let bound = room n in omega (arith, equal, bound)))

pub put_arranged : (x : ℕ) (t : Tree) (es fs : List Pair) → Rearranged es fs → Room x t (flat_map pair_names es)
    → Rearranged (map (subst_pair x t) es) (map (subst_pair x t) fs)
put_arranged x t es fs nothing room = nothing
put_arranged x t es fs (kept p q ps qs alike rest) room =
    kept (subst_pair x t p) (subst_pair x t q) (map (subst_pair x t) ps) (map (subst_pair x t) qs)
    (put_alike x t p q alike (λ n. let split = in_more n p ps in let bound = room n in omega (arith, split, bound)))
    (put_arranged x t ps qs rest (λ n. let split = in_more n p ps in let bound = room n in omega (arith, split, bound)))
put_arranged x t es fs (swapped p q ps) room = swapped (subst_pair x t p) (subst_pair x t q) (map (subst_pair x t) ps)
put_arranged x t es fs (one_by_one ps qs rs first second) room =
    one_by_one (map (subst_pair x t) ps) (map (subst_pair x t) qs) (map (subst_pair x t) rs) (put_arranged x t ps qs first room)
    (put_arranged x t qs rs second (λ n. let equal = arranged_counts n ps qs first in let bound = room n in omega (arith, equal, bound)))
