-- Lemmas: steps that fire nothing leave pairs alone, but for their sides, and take all other pieces by themselves.
use Rattle.std.proofs.Common.{◌≡◌, ◌⊎◌, ℕ, List, [], ◌∷◌, ◌++◌, length, map, refl, sym, ap, arith, inl, inr, subst as transport}
use Rattle.std.proofs.lemmas.List.Sorted.{IsPermutation-refl, IsPermutation-sym, IsPermutation-trans, IsPermutation-cons, IsPermutation-middle, IsPermutation-append_right, length_permutation}
use Rattle.std.specs.Prelude.{IsPermutation}
use Rattle.std.specs.List.{AllByRecursion}
use Rattle.ic_round.specs.lemmas.AnyOrder.{each_permuted as all_order}
use Rattle.ic_arena.specs.declared.word.Word.{Word}
use Rattle.ic_arena.specs.declared.word.TheConstants.{NAME}
use Rattle.ic_arena.specs.Piece.{Piece, equated, idle, waits, agent_of}
use Rattle.ic_machine.specs.declared.equation.Equation.{Equation}
use Rattle.ic_machine.specs.Net.{equated_of, IsPair}
use Rattle.ic_machine.specs.Plan.{Plans, ArePlans}
use Rattle.ic_machine.specs.Steps.{Step, turns, puts, meets, joins, fires, Steps, no_step, one_more}
use Rattle.ic_machine.specs.lemmas.Balance.{no_front, no_back}
use Rattle.ic_machine.specs.lemmas.StepsOn.{one_step, steps_to, steps_through}
use Rattle.ic_meaning.specs.Nets.{IsPiece, ArePieces}
use Rattle.ic_meaning.proofs.Reached.{steps_pieces}
use Rattle.ic_meaning.proofs.Removed.{InPart, in_first, in_second, in_part, same_first}

-- an equation is none of a pair: one side is a name
abbrev HasName : Piece → Type 0
HasName (equated l r) = (l.tag ≡ NAME) ⊎ (r.tag ≡ NAME)
HasName (idle x) = Unit {0}
HasName (waits x u) = Unit {0}
HasName (agent_of a ws) = Unit {0}

no_pair_there : (e : Equation) (old t : List Piece) → IsPair e → AllByRecursion HasName old → IsPermutation old (equated_of e ∷ t) → ⊥
no_pair_there e old t pair named moved = by (all_order HasName old (equated_of e ∷ t) moved named).0
  where
    by : (e.left.tag ≡ NAME) ⊎ (e.right.tag ≡ NAME) → ⊥
    by (inl l) = pair.0 l
    by (inr r) = pair.1 r

abbrev OnlyOthers : Plans → Equation → List Piece → List Piece → Type 0
OnlyOthers p e others zs = (more : List Piece) × IsPermutation zs (equated_of e ∷ more) × Steps p [] others more

-- a step among other pieces
beside : (p : Plans) (e : Equation) (others xs zs old new rest : List Piece) → IsPermutation xs (equated_of e ∷ others) → IsPermutation xs (old ++ rest) → IsPermutation zs (new ++ rest)
    → ((t : List Piece) → IsPermutation old (equated_of e ∷ t) → ⊥) → ((r : List Piece) → Step p [] (old ++ r) (new ++ r)) → OnlyOthers p e others zs
beside p e others xs zs old new rest here given result none step =
    by (in_part (equated_of e) others old rest (IsPermutation-trans (equated_of e ∷ others) xs (old ++ rest) (IsPermutation-sym xs (equated_of e ∷ others) here) given))
  where
    by : InPart (equated_of e) others old rest → OnlyOthers p e others zs
    by (in_first t first left) = absurd (none t first)
    by (in_second t second left) = (
      new ++ t,
      IsPermutation-trans zs (new ++ rest) (equated_of e ∷ (new ++ t)) result
          (IsPermutation-trans (new ++ rest) (new ++ equated_of e ∷ t) (equated_of e ∷ (new ++ t)) (IsPermutation-append_right new rest (equated_of e ∷ t) second) (IsPermutation-middle new (equated_of e) t)),
      steps_through p [] [] others (old ++ t) (new ++ t) (no_step others (old ++ t) left) (one_step p [] (old ++ t) (new ++ t) (step t)),
    )

abbrev turned : Equation → Equation
turned e = record { left = e.right; right = e.left }

-- the pair as it stands, or turned round, and the other pieces
record Left (p : Plans) (e : Equation) (rest zs : List Piece) : Type 0 where
  now : Equation
  same : (now ≡ e) ⊎ (now ≡ turned e)
  others : List Piece
  there : IsPermutation zs (equated_of now ∷ others)
  steps : Steps p [] rest others

pair_still : (e now : Equation) → IsPair e → (now ≡ e) ⊎ (now ≡ turned e) → IsPair now
pair_still e now pair (inl same) = transport IsPair (sym same) pair
pair_still e now pair (inr same) = transport IsPair (sym same) (pair.1, pair.0)

goes_on : (p : Plans) (e : Equation) (rest zs : List Piece) (l : Left p e rest zs) (ys : List Piece) → OnlyOthers p l.now l.others ys → Left p e rest ys
goes_on p e rest zs l ys more = record {
  now = l.now;
  same = l.same;
  others = more.0;
  there = more.1;
  steps = steps_through p [] [] rest l.others more.0 l.steps more.2;
}

alone : (e f : Equation) (t : List Piece) → IsPermutation (equated f.left f.right ∷ []) (equated_of e ∷ t) → (e ≡ f) × (t ≡ [])
alone e f t moved = (same_equation (all_order (λ x. x ≡ equated f.left f.right) (equated f.left f.right ∷ []) (equated_of e ∷ t) moved (refl, tt)).0, empty t (sym (length_permutation (equated f.left f.right ∷ []) (equated_of e ∷ t) moved)))
  where
    same_equation : equated e.left e.right ≡ equated f.left f.right → e ≡ f
    same_equation is =
        let l : e.left ≡ f.left = cc in
        let r : e.right ≡ f.right = cc in
        λ i. record { left = l i; right = r i }

    empty : (s : List Piece) → length (equated f.left f.right ∷ []) ≡ length (equated_of e ∷ s) → s ≡ []
    empty [] same = refl
    empty (x ∷ s) same = absurd (omega (arith, same))

none_equal : {k : ℕ} {ks : List ℕ} → k ∷ ks ≡ [] → ⊥
none_equal e = cc

name_of : (arities : List ℕ) (x : Word) (xs rest : List Piece) (piece : Piece) → IsPermutation xs (piece ∷ idle x ∷ rest) → ArePieces arities xs → x.tag ≡ NAME
name_of arities x xs rest piece moved are = (all_order (IsPiece arities) xs (piece ∷ idle x ∷ rest) moved are).1.0

name_of_waiting : (arities : List ℕ) (x u : Word) (xs rest : List Piece) (piece : Piece) → IsPermutation xs (piece ∷ waits x u ∷ rest) → ArePieces arities xs → x.tag ≡ NAME
name_of_waiting arities x u xs rest piece moved are = (all_order (IsPiece arities) xs (piece ∷ waits x u ∷ rest) moved are).1.0

step_left : (p : Plans) (is : List ℕ) (e : Equation) (rest xs ys : List Piece) → is ≡ [] → IsPair e → ArePieces p.arities xs → Left p e rest xs → Step p is xs ys → Left p e rest ys
step_left p is e rest xs ys none pair are l (turns a b s) =
    by (in_part (equated_of l.now) l.others (equated s.left s.right ∷ []) s.rest (IsPermutation-trans (equated_of l.now ∷ l.others) a (equated s.left s.right ∷ s.rest) (IsPermutation-sym a (equated_of l.now ∷ l.others) l.there) s.given))
  where
    turn_back : (l.now ≡ e) ⊎ (l.now ≡ turned e) → (turned l.now ≡ e) ⊎ (turned l.now ≡ turned e)
    turn_back (inl same) = inr (ap turned same)
    turn_back (inr same) = inl (ap turned same)

    by : InPart (equated_of l.now) l.others (equated s.left s.right ∷ []) s.rest → Left p e rest b
    by (in_first t first left) =
        let both = alone l.now (record { left = s.left; right = s.right }) t first in
        let as_rest : IsPermutation l.others s.rest = transport (λ u. IsPermutation l.others (u ++ s.rest)) both.1 left in
        record {
          now = turned l.now;
          same = turn_back l.same;
          others = s.rest;
          there = transport (λ (z : Equation). IsPermutation b (equated_of (turned z) ∷ s.rest)) (sym both.0) s.result;
          steps = steps_to p [] rest l.others s.rest l.steps as_rest;
        }
    by (in_second t second left) =
        let q = equated s.left s.right in
        let r = equated s.right s.left in
        goes_on p e rest a l b (
          r ∷ t,
          IsPermutation-trans b (r ∷ s.rest) (equated_of l.now ∷ r ∷ t) s.result
              (IsPermutation-trans (r ∷ s.rest) (r ∷ equated_of l.now ∷ t) (equated_of l.now ∷ r ∷ t) (IsPermutation-cons r s.rest (equated_of l.now ∷ t) second) (IsPermutation-middle (r ∷ []) (equated_of l.now) t)),
          steps_through p [] [] l.others (q ∷ t) (r ∷ t) (no_step l.others (q ∷ t) left)
              (one_step p [] (q ∷ t) (r ∷ t) (turns (q ∷ t) (r ∷ t) (record { left = s.left; right = s.right; rest = t; given = IsPermutation-refl (q ∷ t); result = IsPermutation-refl (r ∷ t) }))),
        )
step_left p is e rest xs ys none pair are l (puts a b s) =
    let old = equated s.named s.other ∷ idle s.named ∷ [] in
    let tag = name_of p.arities s.named a s.rest (equated s.named s.other) s.given are in
    goes_on p e rest a l b (beside p l.now l.others a b old (waits s.named s.other ∷ []) s.rest l.there s.given s.result
    (λ t moved. no_pair_there l.now old t (pair_still e l.now pair l.same) (inl tag, (tt, tt)) moved)
    (λ r. puts (old ++ r) (waits s.named s.other ∷ r) (record { named = s.named; other = s.other; rest = r; given = IsPermutation-refl (old ++ r); result = IsPermutation-refl (waits s.named s.other ∷ r) })))
step_left p is e rest xs ys none pair are l (meets a b s) =
    let old = equated s.named s.other ∷ waits s.named s.waiting ∷ [] in
    let tag = name_of_waiting p.arities s.named s.waiting a s.rest (equated s.named s.other) s.given are in
    goes_on p e rest a l b (beside p l.now l.others a b old (equated s.waiting s.other ∷ []) s.rest l.there s.given s.result
    (λ t moved. no_pair_there l.now old t (pair_still e l.now pair l.same) (inl tag, (tt, tt)) moved)
    (λ r. meets (old ++ r) (equated s.waiting s.other ∷ r)
    (record { named = s.named; other = s.other; waiting = s.waiting; rest = r; given = IsPermutation-refl (old ++ r); result = IsPermutation-refl (equated s.waiting s.other ∷ r) })))
step_left p is e rest xs ys none pair are l (joins a b s) =
    let old = waits s.named s.between ∷ waits s.between s.waiting ∷ [] in
    goes_on p e rest a l b (beside p l.now l.others a b old (waits s.named s.waiting ∷ []) s.rest l.there s.given s.result
    (λ t moved. no_pair_there l.now old t (pair_still e l.now pair l.same) (tt, (tt, tt)) moved)
    (λ r. joins (old ++ r) (waits s.named s.waiting ∷ r)
    (record { named = s.named; between = s.between; waiting = s.waiting; rest = r; given = IsPermutation-refl (old ++ r); result = IsPermutation-refl (waits s.named s.waiting ∷ r) })))
step_left p is e rest xs ys none pair are l (fires place a b f) = absurd (none_equal none)

steps_left : (p : Plans) (is : List ℕ) (e : Equation) (rest xs ys : List Piece) → is ≡ [] → ArePlans p → IsPair e → ArePieces p.arities xs → IsPermutation xs (equated_of e ∷ rest) → Steps p is xs ys → Left p e rest ys
steps_left p is e rest xs ys none plans pair are given (no_step a b moved) = record {
  now = e;
  same = inl refl;
  others = rest;
  there = IsPermutation-trans b a (equated_of e ∷ rest) (IsPermutation-sym a b moved) given;
  steps = no_step rest rest (IsPermutation-refl rest);
}
steps_left p is e rest xs ys none plans pair are given (one_more js ks a b c steps last) =
    let before = steps_left p js e rest a b (no_front js ks none) plans pair are given steps in
    step_left p ks e rest b c (no_back js ks none) pair (steps_pieces p js a b plans steps are) before last

-- the pair is there after the steps as well
pair_stays : (p : Plans) (e : Equation) (rest left xs ys : List Piece) → ArePlans p → IsPair e → ArePieces p.arities xs → IsPermutation xs (equated_of e ∷ rest) → IsPermutation ys (equated_of e ∷ left)
    → Steps p [] xs ys → Steps p [] rest left
pair_stays p e rest left xs ys plans pair are given result steps = by l.same
  where
    l : Left p e rest ys
    l = steps_left p [] e rest xs ys refl plans pair are given steps

    joined : IsPermutation (equated_of l.now ∷ l.others) (equated_of e ∷ left)
    joined = IsPermutation-trans (equated_of l.now ∷ l.others) ys (equated_of e ∷ left) (IsPermutation-sym ys (equated_of l.now ∷ l.others) l.there) result

    turn_one : l.now ≡ turned e → InPart (equated_of l.now) l.others (equated_of e ∷ []) left → Steps p [] rest left
    turn_one same (in_first t first back) =
        let both = alone l.now e t first in
        steps_to p [] rest l.others left l.steps (transport (λ u. IsPermutation l.others (u ++ left)) both.1 back)
    turn_one same (in_second t second back) =
        let q = equated e.left e.right in
        let r = equated e.right e.left in
        let second_too : IsPermutation left (r ∷ t) = transport (λ (z : Equation). IsPermutation left (equated_of z ∷ t)) same second in
        steps_through p [] [] rest (q ∷ t) left (steps_to p [] rest l.others (q ∷ t) l.steps back)
        (one_step p [] (q ∷ t) left (turns (q ∷ t) left (record { left = e.left; right = e.right; rest = t; given = IsPermutation-refl (q ∷ t); result = second_too })))

    by : (l.now ≡ e) ⊎ (l.now ≡ turned e) → Steps p [] rest left
    by (inl same) =
        steps_to p [] rest l.others left l.steps
        (same_first (equated_of e) l.others left (transport (λ (z : Equation). IsPermutation (equated_of z ∷ l.others) (equated_of e ∷ left)) same joined))
    by (inr same) = turn_one same (in_part (equated_of l.now) l.others (equated_of e ∷ []) left joined)

pub pairs_stay : (p : Plans) (es : List Equation) (rest left xs ys : List Piece) → ArePlans p → AllByRecursion IsPair es → ArePieces p.arities xs
    → IsPermutation xs (map equated_of es ++ rest) → IsPermutation ys (map equated_of es ++ left) → Steps p [] xs ys → Steps p [] rest left
pairs_stay p [] rest left xs ys plans pairs are given result steps =
    steps_through p [] [] rest xs left (no_step rest xs (IsPermutation-sym xs rest given)) (steps_to p [] xs ys left steps result)
pairs_stay p (e ∷ es) rest left xs ys plans pairs are given result steps =
    let one = pair_stays p e (map equated_of es ++ rest) (map equated_of es ++ left) xs ys plans pairs.0 are given result steps in
    let are_too = all_order (IsPiece p.arities) xs (equated_of e ∷ (map equated_of es ++ rest)) given are in
    pairs_stay p es rest left (map equated_of es ++ rest) (map equated_of es ++ left) plans pairs.1 are_too.1
    (IsPermutation-refl (map equated_of es ++ rest)) (IsPermutation-refl (map equated_of es ++ left)) one
