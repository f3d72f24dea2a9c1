-- Lemmas: parts that are taken out of their slots, and put together one after another.
use Rattle.std.proofs.Common.{◌≡◌, ℕ, ◌+◌, ◌≤◌, List, [], ◌∷◌, ◌++◌, Option, None, Some, append_assoc, length, map, reverse, refl, sym, ap, arith, ◌∙◌}
use Rattle.std.specs.List.{flat_map}
use Rattle.std.proofs.lemmas.List.{append-nil, reverse-append}
use Rattle.std.proofs.lemmas.List.Concat.{flat_map-append}
use Rattle.std.proofs.lemmas.List.Sums.{sum_by-cons}
use Rattle.ic_machine.specs.Moving.{worth}
use Rattle.ic_machine.specs.Plan.{Plans}
use Rattle.ic_workers.specs.Parts.{Part}
use Rattle.ic_workers.specs.declared.kept.Kept.{Kept}
use Rattle.ic_workers.specs.inner.Keeping.{part_of, slot, AreLeft}

-- the parts in hand, the last one first
abbrev pub in_hand : List Kept → List Part
in_hand ks = map part_of (reverse ks)

-- one more in hand comes first
pub one_more : (ks : List Kept) (k : Kept) → in_hand (ks ++ k ∷ []) ≡ part_of k ∷ in_hand ks
one_more ks k = ap (map part_of) (reverse-append ks (k ∷ []))

pub in_hand_first : (ks rest : List Kept) (k : Kept) → ks ≡ rest ++ k ∷ [] → in_hand ks ≡ part_of k ∷ in_hand rest
in_hand_first ks rest k is = ap in_hand is ∙ one_more rest k

-- none is in hand yet
pub none_yet : (os : List (Option Kept)) (ks : List Kept) → ks ≡ [] → flat_map slot os ≡ flat_map slot os ++ in_hand ks
none_yet os ks none = sym (append-nil (flat_map slot os)) ∙ ap (λ (l : List Kept). flat_map slot os ++ in_hand l) (sym none)

slots_and_last : (os : List (Option Kept)) (o : Option Kept) (qs : List Part) → flat_map slot (os ++ o ∷ []) ++ qs ≡ flat_map slot os ++ (slot o ++ qs)
slots_and_last os o qs =
    ap (λ (l : List Part). l ++ qs) (flat_map-append slot os (o ∷ []) ∙ ap (λ (l : List Part). flat_map slot os ++ l) (append-nil (slot o)))
    ∙ append_assoc (flat_map slot os) (slot o) qs

-- a part goes from the last slot into the hand
pub taken_out : (all : List Part) (os left : List (Option Kept)) (o : Option Kept) (k : Kept) (ks new : List Kept) → os ≡ left ++ o ∷ [] → o ≡ Some k
    → new ≡ ks ++ k ∷ [] → all ≡ flat_map slot os ++ in_hand ks → all ≡ flat_map slot left ++ in_hand new
taken_out all os left o k ks new is some pushed before =
    before
    ∙ (ap (λ (l : List (Option Kept)). flat_map slot l ++ in_hand ks) is
    ∙ (slots_and_last left o (in_hand ks)
    ∙ (ap (λ (x : Option Kept). flat_map slot left ++ (slot x ++ in_hand ks)) some
    ∙ ap (λ (l : List Part). flat_map slot left ++ l) (sym (ap in_hand pushed ∙ one_more ks k)))))

-- a slot without a part is left out
pub left_out : (all : List Part) (os left : List (Option Kept)) (o : Option Kept) (ks : List Kept) → os ≡ left ++ o ∷ [] → o ≡ None
    → all ≡ flat_map slot os ++ in_hand ks → all ≡ flat_map slot left ++ in_hand ks
left_out all os left o ks is none before =
    before
    ∙ (ap (λ (l : List (Option Kept)). flat_map slot l ++ in_hand ks) is
    ∙ (slots_and_last left o (in_hand ks)
    ∙ ap (λ (x : Option Kept). flat_map slot left ++ (slot x ++ in_hand ks)) none))

-- all are in hand
pub all_out : (all : List Part) (os : List (Option Kept)) (ks rest : List Kept) (k : Kept) → os ≡ [] → ks ≡ rest ++ k ∷ []
    → all ≡ flat_map slot os ++ in_hand ks → all ≡ part_of k ∷ in_hand rest
all_out all os ks rest k none is before =
    before ∙ (ap (λ (l : List (Option Kept)). flat_map slot l ++ in_hand ks) none ∙ in_hand_first ks rest k is)

-- two that are left have made no more than all
pub two_made : (p : Plans) (qs : List Part) (made : ℕ) (first a : Part) (others : List Part) → AreLeft p qs made first (a ∷ others)
    → first.net.interactions + a.net.interactions ≤ made
two_made p qs made first a others left =
    let f : Part → ℕ = λ (q : Part). q.net.interactions in
    let x = sum_by-cons f first (a ∷ others) in
    let y = sum_by-cons f a others in
    let all = left.counted in
    omega (arith, x, y, all)

pub two_worth : (p : Plans) (qs : List Part) (made : ℕ) (first a : Part) (others : List Part) → AreLeft p qs made first (a ∷ others) → (c : ℕ)
    → worth c first.borders + worth c a.borders ≤ 2
two_worth p qs made first a others left c =
    let f : Part → ℕ = λ (q : Part). worth c q.borders in
    let x = sum_by-cons f first (a ∷ others) in
    let y = sum_by-cons f a others in
    let few = left.two c in
    omega (arith, x, y, few)

-- the last one has made all
pub one_made : (p : Plans) (qs : List Part) (made : ℕ) (first : Part) → AreLeft p qs made first [] → first.net.interactions ≡ made
one_made p qs made first left =
    let x = sum_by-cons (λ (q : Part). q.net.interactions) first [] in
    let all = left.counted in
    omega (arith, x, all)

-- a list without elements
pub no_more : {X : Type 0} (xs : List X) → length xs ≡ 0 → xs ≡ []
no_more [] none = refl
no_more (x ∷ xs) none = absurd (omega (arith, none))
