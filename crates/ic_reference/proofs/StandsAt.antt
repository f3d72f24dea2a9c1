-- What stands at a place of a list of equations, before it and after it.
use Rattle.std.proofs.Common.{◌≡◌, ℕ, suc, ◌+◌, List, [], ◌∷◌, ◌++◌, Some, length, slice_get, take, drop, refl, sym, ap, ◌∙◌, add-one, arith}
use Rattle.std.proofs.lemmas.Option.{slice_get_within, get_or_from_slice_get}
use Rattle.std.proofs.lemmas.List.{length-take-le}
use Rattle.std.proofs.Math.ListN.{take-append-drop}
use Rattle.std.proofs.Math.Seq.{take-append_seam}
use Rattle.ic_term.specs.Tree.{Pair}
use Rattle.ic_round.specs.Steps.{StandsAt}
use Rattle.ic_reference.proofs.ListLemmas.{drop_at}

pub stands : (es : List Pair) (i : ℕ) (p : Pair) → slice_get es i ≡ Some p → StandsAt es i (take i es) p (drop (i + 1) es)
stands es i p there =
    let within = slice_get_within es i p there in
    let here = get_or_from_slice_get es i p p there in
    record {
      counted = length-take-le i es (omega arith);
      parts = sym (take-append-drop i es) ∙ ap (λ l. take i es ++ l) (drop_at es i p within (sym here));
    }

middle_there : (before : List Pair) (p : Pair) (after : List Pair) → slice_get (before ++ p ∷ after) (length before) ≡ Some p
middle_there [] p after = refl
middle_there (q ∷ qs) p after = middle_there qs p after

middle_after : (before : List Pair) (p : Pair) (after : List Pair) → drop (suc (length before)) (before ++ p ∷ after) ≡ after
middle_after [] p after = refl
middle_after (q ∷ qs) p after = middle_after qs p after

pub stands_there : (es : List Pair) (i : ℕ) (before : List Pair) (p : Pair) (after : List Pair) → StandsAt es i before p after → slice_get es i ≡ Some p
stands_there es i before p after s = (λ j. slice_get (s.parts j) (sym s.counted j)) ∙ middle_there before p after

pub stands_others : (es : List Pair) (i : ℕ) (before : List Pair) (p : Pair) (after : List Pair) → StandsAt es i before p after
    → before ++ after ≡ take i es ++ drop (i + 1) es
stands_others es i before p after s =
    let front : take i es ≡ before = (λ j. take (sym s.counted j) (s.parts j)) ∙ take-append_seam before (p ∷ after) in
    let back : drop (i + 1) es ≡ after = ap (λ k. drop k es) (add-one i) ∙ (λ j. drop (suc (sym s.counted j)) (s.parts j)) ∙ middle_after before p after in
    λ j. sym front j ++ sym back j
