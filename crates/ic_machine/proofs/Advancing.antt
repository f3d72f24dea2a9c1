-- Generations that go on.
use Rattle.std.proofs.Common.{◌≡◌, ℕ, zero, suc, ◌+◌, ◌≤◌, List, [], ◌∷◌, ◌++◌, length, take, drop, ap, sym, subst, ◌∙◌, add-zero, arith}
use Rattle.std.specs.List.Sorted.{IsPermutation}
use Rattle.std.proofs.lemmas.List.{drop-append-le, length-append, take-append-drop, take-append-le}
use Rattle.std.proofs.lemmas.List.Sorted.{IsPermutation-refl}
use Rattle.ic_machine.specs.declared.equation.Equation.{Equation}
use Rattle.ic_machine.specs.declared.generation.Generation.{Generation}
use Rattle.ic_machine.specs.Plan.{Plans}
use Rattle.ic_machine.specs.Net.{Net}
use Rattle.ic_machine.specs.Generations.{Advances, IsWithin, Takes, TakesFirst, beside}
use Rattle.ic_machine.specs.Runs.{Ran}

-- So many of a list, its first part and more.
take_past : (xs ys : List Equation) (n k : ℕ) → n ≡ k + length xs → take n (xs ++ ys) ≡ xs ++ take k ys
take_past [] ys n k is = ap (λ (m : ℕ). take m ys) (is ∙ add-zero k)
take_past (x ∷ xs) ys zero k is = absurd (omega arith)
take_past (x ∷ xs) ys (suc n) k is = ap (λ (l : List Equation). x ∷ l) (take_past xs ys n k (omega arith))

-- and what is after these
drop_past : (xs ys : List Equation) (n k : ℕ) → n ≡ k + length xs → drop n (xs ++ ys) ≡ drop k ys
drop_past [] ys n k is = ap (λ (m : ℕ). drop m ys) (is ∙ add-zero k)
drop_past (x ∷ xs) ys zero k is = absurd (omega arith)
drop_past (x ∷ xs) ys (suc n) k is = drop_past xs ys n k (omega arith)

-- The first pairs of a generation are taken, and those that come of them stand after all others.
pub firsts_taken : (p : Plans) (g h : Generation) (old new : Net) (ran : Ran p old new) (taken rest more : List Equation)
    → g.end ≡ h.end + length taken → IsWithin g old.pending → old.pending ≡ taken ++ rest → new.pending ≡ rest ++ more
    → ((now later : List Equation) → IsPermutation rest (now ++ later)
    → Takes p (taken ++ now) now ran.fired (beside later old) (beside (later ++ more) new))
    → Advances p g h old new × IsWithin h new.pending
firsts_taken p g h old new ran taken rest more ends inside first pending takes =
    let k : ℕ = h.end in
    let len : length old.pending ≡ length taken + length rest = ap length first ∙ length-append taken rest in
    let low : k ≤ length rest = omega arith in
    let now : take g.end old.pending ≡ taken ++ take k rest = ap (take g.end) first ∙ take_past taken rest g.end k ends in
    let others : drop g.end old.pending ≡ drop k rest = ap (drop g.end) first ∙ drop_past taken rest g.end k ends in
    let left : take k new.pending ≡ take k rest = ap (take k) pending ∙ take-append-le k rest more low in
    let after : drop k new.pending ≡ drop k rest ++ more = ap (drop k) pending ∙ drop-append-le k rest more low in
    let order : IsPermutation rest (take k rest ++ drop k rest) =
    subst (IsPermutation rest) (sym (take-append-drop k rest)) (IsPermutation-refl rest) in
    let longer : length new.pending ≡ length rest + length more = ap length pending ∙ length-append rest more in (
      record {
        ran = ran;
        takes = subst (λ (l : List Equation). Takes p l (take k new.pending) ran.fired (beside (drop g.end old.pending) old)
            (beside (drop k new.pending) new)) (sym now)
            (subst (λ (l : List Equation). Takes p (taken ++ take k rest) l ran.fired (beside (drop g.end old.pending) old)
            (beside (drop k new.pending) new)) (sym left)
            (subst (λ (l : List Equation). Takes p (taken ++ take k rest) (take k rest) ran.fired (beside l old)
            (beside (drop k new.pending) new)) (sym others)
            (subst (λ (l : List Equation). Takes p (taken ++ take k rest) (take k rest) ran.fired (beside (drop k rest) old)
            (beside l new)) (sym after) (takes (take k rest) (drop k rest) order))));
      },
      omega arith,
    )

-- The first pair of a generation is taken.
pub one_taken : (p : Plans) (g h : Generation) (old new : Net) → g.end ≡ suc h.end → IsWithin g old.pending → TakesFirst p old new
    → Advances p g h old new × IsWithin h new.pending
one_taken p g h old new one inside t =
    firsts_taken p g h old new t.ran (t.pair ∷ []) t.rest t.more (omega (arith, one)) inside t.first t.pending t.takes
