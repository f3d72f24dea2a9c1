-- Lemmas: steps that fire nothing leave agents alone, and take all other pieces by themselves.
use Rattle.std.proofs.Common.{◌≡◌, List, [], ◌∷◌, ◌++◌, Bool, true, false, not, cond, refl, ap, ◌∙◌, append_assoc, ℕ, arith, subst as transport}
use Rattle.std.proofs.lemmas.List.Elements.{filter-append}
use Rattle.std.proofs.lemmas.List.Sorted.{IsPermutation-refl, IsPermutation-sym, IsPermutation-trans, IsPermutation-append_left, IsPermutation-append_right, IsPermutation-cons, IsPermutation-swap, IsPermutation-filter_both}
use Rattle.std.specs.Prelude.{IsPermutation, filter}
use Rattle.std.specs.List.{list_all}
use Rattle.ic_reaching.specs.lemmas.Orders.{any_order}
use Rattle.ic_arena.specs.Piece.{Piece, equated, idle, waits, agent_of}
use Rattle.ic_machine.specs.Plan.{Plans}
use Rattle.ic_machine.specs.Steps.{Step, turns, puts, meets, joins, fires, Steps, no_step, one_more}
use Rattle.ic_machine.specs.lemmas.Balance.{no_front, no_back}
use Rattle.ic_machine.specs.lemmas.Orders.{to_front}
use Rattle.ic_machine.specs.lemmas.StepsOn.{steps_to, steps_through}

abbrev pub is_agent : Piece → Bool
is_agent (equated l r) = false
is_agent (idle x) = false
is_agent (waits x u) = false
is_agent (agent_of a ws) = true

abbrev pub is_other : Piece → Bool
is_other p = not (is_agent p)

abbrev agents_in : List Piece → List Piece
agents_in ps = filter is_agent ps

abbrev others_in : List Piece → List Piece
others_in ps = filter is_other ps

-- ---- those that pass a test, in another order

passed_first : (test : Piece → Bool) (x : Piece) (xs ys : List Piece) (b : Bool) → IsPermutation xs ys → IsPermutation (cond b (x ∷ xs) xs) (cond b (x ∷ ys) ys)
passed_first test x xs ys true moved = IsPermutation-cons x xs ys moved
passed_first test x xs ys false moved = moved

passed_two : (x y : Piece) (xs : List Piece) (a b : Bool) → IsPermutation (cond a (x ∷ cond b (y ∷ xs) xs) (cond b (y ∷ xs) xs)) (cond b (y ∷ cond a (x ∷ xs) xs) (cond a (x ∷ xs) xs))
passed_two x y xs true true = IsPermutation-swap (x ∷ y ∷ xs) (y ∷ x ∷ xs) 0 1 (omega arith) (omega arith) refl
passed_two x y xs true false = IsPermutation-refl (x ∷ xs)
passed_two x y xs false true = IsPermutation-refl (y ∷ xs)
passed_two x y xs false false = IsPermutation-refl xs

pub filter_moved : (test : Piece → Bool) (xs ys : List Piece) → IsPermutation xs ys → IsPermutation (filter test xs) (filter test ys)
filter_moved test = any_order (λ xs ys. IsPermutation (filter test xs) (filter test ys)) (record {
  same = λ xs. IsPermutation-refl (filter test xs);
  more = λ x xs ys moved. passed_first test x (filter test xs) (filter test ys) (test x) moved;
  first_two = λ x y xs. passed_two x y (filter test xs) (test x) (test y);
  in_turn = λ xs ys zs one other. IsPermutation-trans (filter test xs) (filter test ys) (filter test zs) one other;
})

-- ---- one step

abbrev Apart : Plans → List ℕ → List Piece → List Piece → Type 0
Apart p is xs ys = IsPermutation (agents_in xs) (agents_in ys) × Steps p is (others_in xs) (others_in ys)

one_apart : (p : Plans) (is : List ℕ) (xs ys rest : List Piece) → IsPermutation (agents_in xs) (agents_in rest) → IsPermutation (agents_in ys) (agents_in rest) → Step p is (others_in xs) (others_in ys) → Apart p is xs ys
one_apart p is xs ys rest one other step = (
  IsPermutation-trans (agents_in xs) (agents_in rest) (agents_in ys) one (IsPermutation-sym (agents_in ys) (agents_in rest) other),
  one_more [] is (others_in xs) (others_in xs) (others_in ys) (no_step (others_in xs) (others_in xs) (IsPermutation-refl (others_in xs))) step,
)

step_apart : (p : Plans) (is : List ℕ) (xs ys : List Piece) → is ≡ [] → Step p is xs ys → Apart p is xs ys
step_apart p is xs ys none (turns a b s) =
    one_apart p [] a b s.rest (filter_moved is_agent a (equated s.left s.right ∷ s.rest) s.given) (filter_moved is_agent b (equated s.right s.left ∷ s.rest) s.result)
    (turns (others_in a) (others_in b) (record {
      left = s.left;
      right = s.right;
      rest = others_in s.rest;
      given = filter_moved is_other a (equated s.left s.right ∷ s.rest) s.given;
      result = filter_moved is_other b (equated s.right s.left ∷ s.rest) s.result;
    }))
step_apart p is xs ys none (puts a b s) =
    one_apart p [] a b s.rest (filter_moved is_agent a (equated s.named s.other ∷ idle s.named ∷ s.rest) s.given) (filter_moved is_agent b (waits s.named s.other ∷ s.rest) s.result)
    (puts (others_in a) (others_in b) (record {
      named = s.named;
      other = s.other;
      rest = others_in s.rest;
      given = filter_moved is_other a (equated s.named s.other ∷ idle s.named ∷ s.rest) s.given;
      result = filter_moved is_other b (waits s.named s.other ∷ s.rest) s.result;
    }))
step_apart p is xs ys none (meets a b s) =
    one_apart p [] a b s.rest (filter_moved is_agent a (equated s.named s.other ∷ waits s.named s.waiting ∷ s.rest) s.given) (filter_moved is_agent b (equated s.waiting s.other ∷ s.rest) s.result)
    (meets (others_in a) (others_in b) (record {
      named = s.named;
      other = s.other;
      waiting = s.waiting;
      rest = others_in s.rest;
      given = filter_moved is_other a (equated s.named s.other ∷ waits s.named s.waiting ∷ s.rest) s.given;
      result = filter_moved is_other b (equated s.waiting s.other ∷ s.rest) s.result;
    }))
step_apart p is xs ys none (joins a b s) =
    one_apart p [] a b s.rest (filter_moved is_agent a (waits s.named s.between ∷ waits s.between s.waiting ∷ s.rest) s.given) (filter_moved is_agent b (waits s.named s.waiting ∷ s.rest) s.result)
    (joins (others_in a) (others_in b) (record {
      named = s.named;
      between = s.between;
      waiting = s.waiting;
      rest = others_in s.rest;
      given = filter_moved is_other a (waits s.named s.between ∷ waits s.between s.waiting ∷ s.rest) s.given;
      result = filter_moved is_other b (waits s.named s.waiting ∷ s.rest) s.result;
    }))
step_apart p is xs ys none (fires place a b f) = absurd (some_list none)
  where
    some_list : {k : ℕ} {ks : List ℕ} → k ∷ ks ≡ [] → ⊥
    some_list e = cc

steps_apart : (p : Plans) (is : List ℕ) (xs ys : List Piece) → is ≡ [] → Steps p is xs ys → Apart p is xs ys
steps_apart p is xs ys none (no_step a b moved) = (filter_moved is_agent a b moved, no_step (others_in a) (others_in b) (filter_moved is_other a b moved))
steps_apart p is xs ys none (one_more js ks a b c steps last) =
    let first = steps_apart p js a b (no_front js ks none) steps in
    let second = step_apart p ks b c (no_back js ks none) last in (
      IsPermutation-trans (agents_in a) (agents_in b) (agents_in c) first.0 second.0,
      both_steps p js ks (others_in a) (others_in b) (others_in c) first.1 second.1,
    )
  where
    both_steps : (p : Plans) (js ks : List ℕ) (us vs ws : List Piece) → Steps p js us vs → Steps p ks vs ws → Steps p (js ++ ks) us ws
    both_steps p js ks us vs ws one two = steps_through p js ks us vs ws one two

-- ---- other pieces beside

beside_front : (us front rest b : List Piece) → IsPermutation us (front ++ rest) → IsPermutation (b ++ us) (front ++ (b ++ rest))
beside_front us front rest b moved = IsPermutation-trans (b ++ us) (b ++ (front ++ rest)) (front ++ (b ++ rest)) (IsPermutation-append_right b us (front ++ rest) moved) (to_front b front rest)

step_beside : (p : Plans) (is : List ℕ) (b us vs : List Piece) → is ≡ [] → Step p is us vs → Step p is (b ++ us) (b ++ vs)
step_beside p is b us vs none (turns x y s) = turns (b ++ x) (b ++ y) (record {
  left = s.left;
  right = s.right;
  rest = b ++ s.rest;
  given = beside_front x (equated s.left s.right ∷ []) s.rest b s.given;
  result = beside_front y (equated s.right s.left ∷ []) s.rest b s.result;
})
step_beside p is b us vs none (puts x y s) = puts (b ++ x) (b ++ y) (record {
  named = s.named;
  other = s.other;
  rest = b ++ s.rest;
  given = beside_front x (equated s.named s.other ∷ idle s.named ∷ []) s.rest b s.given;
  result = beside_front y (waits s.named s.other ∷ []) s.rest b s.result;
})
step_beside p is b us vs none (meets x y s) = meets (b ++ x) (b ++ y) (record {
  named = s.named;
  other = s.other;
  waiting = s.waiting;
  rest = b ++ s.rest;
  given = beside_front x (equated s.named s.other ∷ waits s.named s.waiting ∷ []) s.rest b s.given;
  result = beside_front y (equated s.waiting s.other ∷ []) s.rest b s.result;
})
step_beside p is b us vs none (joins x y s) = joins (b ++ x) (b ++ y) (record {
  named = s.named;
  between = s.between;
  waiting = s.waiting;
  rest = b ++ s.rest;
  given = beside_front x (waits s.named s.between ∷ waits s.between s.waiting ∷ []) s.rest b s.given;
  result = beside_front y (waits s.named s.waiting ∷ []) s.rest b s.result;
})
step_beside p is b us vs none (fires place x y f) = absurd (some_list none)
  where
    some_list : {k : ℕ} {ks : List ℕ} → k ∷ ks ≡ [] → ⊥
    some_list e = cc

pub steps_beside : (p : Plans) (is : List ℕ) (b us vs : List Piece) → is ≡ [] → Steps p is us vs → Steps p is (b ++ us) (b ++ vs)
steps_beside p is b us vs none (no_step x y moved) = no_step (b ++ x) (b ++ y) (IsPermutation-append_right b x y moved)
steps_beside p is b us vs none (one_more js ks x y z steps last) =
    one_more js ks (b ++ x) (b ++ y) (b ++ z) (steps_beside p js b x y (no_front js ks none) steps) (step_beside p ks b y z (no_back js ks none) last)

-- ---- agents that stand there after steps stood there before them

parted : (ps : List Piece) → IsPermutation ps (agents_in ps ++ others_in ps)
parted ps = IsPermutation-filter_both is_agent is_other (λ p. refl) ps

all_pass : (cells : List Piece) → list_all is_agent cells ≡ true → agents_in cells ≡ cells
all_pass [] all = refl
all_pass (agent_of a ws ∷ cells) all = ap (λ l. agent_of a ws ∷ l) (all_pass cells all)
all_pass (equated l r ∷ cells) all = cc
all_pass (idle x ∷ cells) all = cc
all_pass (waits x u ∷ cells) all = cc

none_passes : (cells : List Piece) → list_all is_agent cells ≡ true → others_in cells ≡ []
none_passes [] all = refl
none_passes (agent_of a ws ∷ cells) all = none_passes cells all
none_passes (equated l r ∷ cells) all = cc
none_passes (idle x ∷ cells) all = cc
none_passes (waits x u ∷ cells) all = cc

pub agents_stay : (p : Plans) (xs ys cells os : List Piece) → Steps p [] xs ys → list_all is_agent cells ≡ true → IsPermutation ys (cells ++ os)
    → (us : List Piece) × IsPermutation xs (cells ++ us) × Steps p [] us os
agents_stay p xs ys cells os steps all moved =
    let apart = steps_apart p [] xs ys refl steps in
    let bs = agents_in os in
    let agents : agents_in (cells ++ os) ≡ cells ++ bs = filter-append is_agent cells os ∙ ap (λ l. l ++ bs) (all_pass cells all) in
    let others : others_in (cells ++ os) ≡ others_in os = filter-append is_other cells os ∙ ap (λ l. l ++ others_in os) (none_passes cells all) in
    let first = IsPermutation-trans (agents_in xs) (agents_in ys) (cells ++ bs) apart.0 (transport (IsPermutation (agents_in ys)) agents (filter_moved is_agent ys (cells ++ os) moved)) in
    let second = transport (IsPermutation (others_in ys)) others (filter_moved is_other ys (cells ++ os) moved) in
    let us = bs ++ others_in xs in
    let given = IsPermutation-trans xs (agents_in xs ++ others_in xs) ((cells ++ bs) ++ others_in xs) (parted xs) (IsPermutation-append_left (others_in xs) (agents_in xs) (cells ++ bs) first) in
    let on = steps_beside p [] bs (others_in xs) (others_in os) refl (steps_to p [] (others_in xs) (others_in ys) (others_in os) apart.1 second) in (
      us,
      transport (IsPermutation xs) (append_assoc cells bs (others_in xs)) given,
      steps_to p [] us (bs ++ others_in os) os on (IsPermutation-sym os (bs ++ others_in os) (parted os)),
    )
