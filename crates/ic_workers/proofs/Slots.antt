-- Lemmas: slots whose parts have their numbers.
use Rattle.std.proofs.Common.{◌≡◌, ℕ, zero, suc, ◌+◌, ◌<◌, ◌≤◌, ◌==◌, List, [], ◌∷◌, ◌++◌, Bool, true, false, cond, Option, None, Some, append_assoc, length, map, get_or, refl, sym, ap, subst, arith, ◌∙◌, add-zero, count_by, eq-eqb}
use Rattle.std.proofs.Math.ListN.{set}
use Rattle.std.specs.List.{flat_map, AllByRecursion}
use Rattle.std.specs.List.Sorted.{IsPermutation}
use Rattle.std.proofs.lemmas.List.Sums.{sum_by-cons, sum_by-append}
use Rattle.ic_workers.specs.Parts.{Part}
use Rattle.ic_workers.specs.declared.kept.Kept.{Kept}
use Rattle.ic_workers.specs.declared.desk.Desk.{Desk}
use Rattle.ic_workers.specs.inner.Keeping.{part_of, slot, slots_at, AreAt, AreApart, AreWithin}
use Rattle.std.proofs.lemmas.Bool.{eqb-true}
use Rattle.std.proofs.lemmas.List.{map-append}
use Rattle.std.proofs.lemmas.List.Sorted.{IsPermutation-sym, IsPermutation-trans, IsPermutation-middle, sum_by-IsPermutation}
use Rattle.ic_workers.proofs.Lists.{put_at_end, same_length, swapped}

-- a slot is set: its parts have its number
pub at_set : {X : Type 0} (f : X → List Part) (xs : List X) (j i : ℕ) (n : X) → AllByRecursion (λ q. q.number ≡ j + i) (f n)
    → AreAt j (map f xs) → AreAt j (map f (set xs i n))
at_set f [] j i n one at = tt
at_set f (x ∷ xs) j zero n one at = (subst (λ (m : ℕ). AllByRecursion (λ q. q.number ≡ m) (f n)) (add-zero j) one, at.1)
at_set f (x ∷ xs) j (suc i) n one at = (
  at.0,
  at_set f xs (j + 1) i n (subst (λ (m : ℕ). AllByRecursion (λ q. q.number ≡ m) (f n)) (omega arith) one) at.1,
)

-- the parts of a slot have its number
pub at_slot : {X : Type 0} (f : X → List Part) (xs : List X) (j i : ℕ) (o : X) → i < length xs → o ≡ get_or xs i o
    → AreAt j (map f xs) → AllByRecursion (λ q. q.number ≡ j + i) (f o)
at_slot f [] j i o lt is at = absurd (omega (arith, lt))
at_slot f (x ∷ xs) j zero o lt is at =
    subst (λ (m : ℕ). AllByRecursion (λ q. q.number ≡ m) (f o)) (sym (add-zero j))
    (subst (λ y. AllByRecursion (λ q. q.number ≡ j) (f y)) (sym is) at.0)
at_slot f (x ∷ xs) j (suc i) o lt is at =
    let there : (j + 1) + i ≡ j + suc i = omega arith in
    subst (λ (m : ℕ). AllByRecursion (λ q. q.number ≡ m) (f o)) there
    (at_slot f xs (j + 1) i o (omega (arith, lt)) is at.1)

-- how many have a number
abbrev pub having : ℕ → List Part → ℕ
having k qs = count_by (λ q. q.number == k) qs

-- all of some parts have one number, so each of them counts there
pub all_have : (k : ℕ) (qs : List Part) → AllByRecursion (λ q. q.number ≡ k) qs → having k qs ≡ length qs
all_have k [] all = refl
all_have k (q ∷ qs) all =
    let here : ◌≡◌ {A = ℕ} (cond (q.number == k) 1 0) 1 = ap (λ (b : Bool). cond {A = ℕ} b 1 0) (eq-eqb q.number k all.0) in
    let a = sum_by-cons (λ (r : Part). cond {A = ℕ} (r.number == k) 1 0) q qs in
    let rest = all_have k qs all.1 in
    omega (arith, here, a, rest)

-- a slot's parts are among all
pub slot_among : {X : Type 0} (f : X → List Part) (xs : List X) (k i : ℕ) (o : X) → i < length xs → o ≡ get_or xs i o
    → having k (f o) ≤ having k (flat_map f xs)
slot_among f [] k i o lt is = absurd (omega (arith, lt))
slot_among f (x ∷ xs) k zero o lt is =
    let same : having k (f o) ≡ having k (f x) = ap (λ y. having k (f y)) is in
    let a : having k (f x ++ flat_map f xs) ≡ having k (f x) + having k (flat_map f xs) =
    sum_by-append (λ (r : Part). cond {A = ℕ} (r.number == k) 1 0) (f x) (flat_map f xs) in
    omega (arith, same, a)
slot_among f (x ∷ xs) k (suc i) o lt is =
    let rest = slot_among f xs k i o (omega (arith, lt)) is in
    let a : having k (f x ++ flat_map f xs) ≡ having k (f x) + having k (flat_map f xs) =
    sum_by-append (λ (r : Part). cond {A = ℕ} (r.number == k) 1 0) (f x) (flat_map f xs) in
    omega (arith, rest, a)

zero_more : (k : ℕ) → 0 + k ≡ k
zero_more k = omega arith

-- A part that goes to the slot of its number finds that empty, where no two parts have one number.
pub slot_free : {X : Type 0} (f : X → List Part) (xs : List X) (q : Part) (qs : List Part) (o : X) → q.number < length xs → o ≡ get_or xs q.number o
    → AreAt 0 (map f xs) → AreApart (q ∷ (qs ++ flat_map f xs)) → length (f o) ≡ 0
slot_free f xs q qs o lt is at apart =
    let k : ℕ = q.number in
    let few : having k (q ∷ (qs ++ flat_map f xs)) ≤ 1 = apart k in
    let here : ◌≡◌ {A = ℕ} (cond (q.number == k) 1 0) 1 = ap (λ (b : Bool). cond {A = ℕ} b 1 0) (eq-eqb q.number k refl) in
    let a = sum_by-cons (λ (r : Part). cond {A = ℕ} (r.number == k) 1 0) q (qs ++ flat_map f xs) in
    let b : having k (qs ++ flat_map f xs) ≡ having k qs + having k (flat_map f xs) =
    sum_by-append (λ (r : Part). cond {A = ℕ} (r.number == k) 1 0) qs (flat_map f xs) in
    let among = slot_among f xs k k o lt is in
    let all = all_have k (f o) (subst (λ (m : ℕ). AllByRecursion (λ r. r.number ≡ m) (f o)) (zero_more k) (at_slot f xs 0 k o lt is at)) in
    omega (arith, few, here, a, b, among, all)

-- what is at a place, whatever would be there instead
pub at_any : {X : Type 0} (xs : List X) (i : ℕ) (d : X) → i < length xs → get_or xs i d ≡ get_or xs i (get_or xs i d)
at_any [] i d lt = absurd (omega (arith, lt))
at_any (x ∷ xs) zero d lt = refl
at_any (x ∷ xs) (suc i) d lt = at_any xs i d (omega (arith, lt))

pub apart_too : (qs rs : List Part) → IsPermutation qs rs → AreApart rs → AreApart qs
apart_too qs rs moved apart k =
    let same : having k rs ≡ having k qs = sum_by-IsPermutation (λ (q : Part). cond {A = ℕ} (q.number == k) 1 0) qs rs moved in
    let few = apart k in
    omega (arith, same, few)

none_in : (o : Option Kept) → length (slot o) ≡ 0 → slot o ≡ []
none_in None none = refl
none_in (Some k) none = absurd (omega (arith, none))

-- A part goes back to its slot.
pub put_back : (xs : List (Option Kept)) (hs : List Kept) (kept : Kept) (all : List Part) → kept.number < length xs → AreAt 0 (map slot xs)
    → AreApart all → IsPermutation (map part_of (hs ++ kept ∷ []) ++ flat_map slot xs) all
    → IsPermutation (map part_of hs ++ flat_map slot (set xs kept.number (Some kept))) all
put_back xs hs kept all lt at apart moved =
    let q : Part = part_of kept in
    let o : Option Kept = get_or xs kept.number None in
    let is : o ≡ get_or xs kept.number o = at_any xs kept.number None lt in
    let F : List Part = flat_map slot xs in
    let G : List Part = flat_map slot (set xs kept.number (Some kept)) in
    let before : List Part = (map part_of hs ++ q ∷ []) ++ F in
    let moved_too : IsPermutation before all =
    subst (λ l. IsPermutation (l ++ F) all) (map-append part_of hs (kept ∷ [])) moved in
    let front : IsPermutation before (q ∷ (map part_of hs ++ F)) =
    subst (λ l. IsPermutation l (q ∷ (map part_of hs ++ F))) (sym (append_assoc (map part_of hs) (q ∷ []) F)) (IsPermutation-middle (map part_of hs) q F) in
    let apart_here : AreApart (q ∷ (map part_of hs ++ F)) =
    apart_too (q ∷ (map part_of hs ++ F)) all (IsPermutation-trans (q ∷ (map part_of hs ++ F)) before all (IsPermutation-sym before (q ∷ (map part_of hs ++ F)) front) moved_too) apart in
    let free : slot o ≡ [] = none_in o (slot_free slot xs q (map part_of hs) o lt is at apart_here) in
    let swap : IsPermutation (q ∷ F) G =
    subst (λ l. IsPermutation (q ∷ F) (l ++ G)) free (swapped slot xs kept.number o (Some kept) lt is) in
    IsPermutation-trans (map part_of hs ++ G) before all
    (IsPermutation-sym before (map part_of hs ++ G) (put_at_end (map part_of hs) G F q (IsPermutation-sym (q ∷ F) G swap))) moved_too

-- ---- all slots

-- no part has a number before the first slot, and none of those from there on has one twice
pub at_once : (xs : List (Option Kept)) (j k : ℕ) → AreAt j (map slot xs) → (having k (flat_map slot xs) ≤ 1) × (k < j → having k (flat_map slot xs) ≡ 0)
at_once [] j k at = (omega arith, λ lt. refl)
at_once (None ∷ xs) j k at =
    let rest = at_once xs (j + 1) k at.1 in
    (rest.0, λ lt. rest.1 (omega (arith, lt)))
at_once (Some q ∷ xs) j k at =
    let rest = at_once xs (j + 1) k at.1 in
    let a : having k (part_of q ∷ flat_map slot xs) ≡ cond (q.number == k) 1 0 + having k (flat_map slot xs) =
    sum_by-cons (λ (r : Part). cond {A = ℕ} (r.number == k) 1 0) (part_of q) (flat_map slot xs) in
    here (q.number == k) refl rest a
  where
    here : (b : Bool) → (q.number == k) ≡ b → (having k (flat_map slot xs) ≤ 1) × (k < j + 1 → having k (flat_map slot xs) ≡ 0)
        → having k (part_of q ∷ flat_map slot xs) ≡ cond (q.number == k) 1 0 + having k (flat_map slot xs)
        → (having k (part_of q ∷ flat_map slot xs) ≤ 1) × (k < j → having k (part_of q ∷ flat_map slot xs) ≡ 0)
    here true e rest a =
        let number : q.number ≡ k = eqb-true q.number k e in
        let own : q.number ≡ j = at.0.0 in
        let one : ◌≡◌ {A = ℕ} (cond (q.number == k) 1 0) 1 = ap (λ (b : Bool). cond {A = ℕ} b 1 0) e in
        let none : having k (flat_map slot xs) ≡ 0 = rest.1 (omega (arith, number, own)) in
        (omega (arith, a, one, none), λ lt. absurd (omega (arith, lt, number, own)))
    here false e rest a =
        let zero_here : ◌≡◌ {A = ℕ} (cond (q.number == k) 1 0) 0 = ap (λ (b : Bool). cond {A = ℕ} b 1 0) e in
        let few = rest.0 in
        (omega (arith, a, zero_here, few), λ lt. let none = rest.1 (omega (arith, lt)) in omega (arith, a, zero_here, none))

pub at_apart : (xs : List (Option Kept)) → AreAt 0 (map slot xs) → AreApart (flat_map slot xs)
at_apart xs at k = (at_once xs 0 k at).0

pub at_within : (xs : List (Option Kept)) (j n : ℕ) → j + length xs ≤ n → AreAt j (map slot xs) → AreWithin n (flat_map slot xs)
at_within [] j n few at = tt
at_within (None ∷ xs) j n few at = at_within xs (j + 1) n (omega (arith, few)) at.1
at_within (Some q ∷ xs) j n few at =
    let own : q.number ≡ j = at.0.0 in
    (omega (arith, few, own), at_within xs (j + 1) n (omega (arith, few)) at.1)

-- one more slot at the end
pub at_end : (xs : List (Option Kept)) (j : ℕ) (q : Kept) → q.number ≡ j + length xs → AreAt j (map slot xs) → AreAt j (map slot (xs ++ Some q ∷ []))
at_end [] j q is at = ((is ∙ add-zero j, tt), tt)
at_end (x ∷ xs) j q is at = (at.0, at_end xs (j + 1) q (omega (arith, is)) at.1)

-- where all slots are full, each one has a part
pub full_most : (xs : List (Option Kept)) → length (flat_map slot xs) ≤ length xs
full_most [] = omega arith
full_most (None ∷ xs) = let rest = full_most xs in omega (arith, rest)
full_most (Some q ∷ xs) = let rest = full_most xs in omega (arith, rest)

pub full_slot : (xs : List (Option Kept)) (i : ℕ) → length (flat_map slot xs) ≡ length xs → i < length xs → (q : Kept) × (get_or xs i None ≡ Some q)
full_slot [] i full lt = absurd (omega (arith, lt))
full_slot (None ∷ xs) i full lt = let most = full_most xs in absurd (omega (arith, full, most))
full_slot (Some q ∷ xs) zero full lt = (q, refl)
full_slot (Some q ∷ xs) (suc i) full lt = full_slot xs i (omega (arith, full)) (omega (arith, lt))

-- a desk has as many slots after its slots stayed
pub slots_stay : (d e : Desk) → slots_at e ≡ slots_at d → length e.parts.items ≡ length d.parts.items
slots_stay d e same = same_length slot e.parts.items d.parts.items same

-- numbers that have slots have them at a desk with as many
pub still_there : (d e : Desk) (ks : List ℕ) → length e.parts.items ≡ length d.parts.items
    → AllByRecursion (λ k. k < length d.parts.items) ks → AllByRecursion (λ k. k < length e.parts.items) ks
still_there d e ks len all = subst (λ (n : ℕ). AllByRecursion (λ k. k < n) ks) (sym len) all
