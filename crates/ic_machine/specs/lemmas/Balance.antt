-- Steps that fire nothing keep how much more room there is for a word than it is named.
use Rattle.std.proofs.Common.{◌≡◌, ℕ, ◌+◌, List, [], ◌∷◌, ◌++◌, refl, ◌∙◌, arith, sum_by, map}
use Rattle.std.proofs.lemmas.List.Sorted.{sum_by-IsPermutation}
use Rattle.std.proofs.lemmas.List.Sums.{sum_by-cons}
use Rattle.ic_arena.specs.declared.word.Word.{Word}
use Rattle.ic_arena.specs.Word.{word_eq}
use Rattle.ic_arena.specs.Piece.{Piece, equated, idle, waits, room, uses}
use Rattle.ic_machine.specs.declared.equation.Equation.{Equation}
use Rattle.ic_machine.specs.Plan.{Plans}
use Rattle.ic_machine.specs.Net.{equated_of}
use Rattle.ic_machine.specs.Steps.{Step, turns, puts, meets, joins, fires, Steps, no_step, one_more}
use Rattle.ic_machine.specs.lemmas.Separation.{balances, twice}

pub no_front : {X : Type 0} (xs ys : List X) → xs ++ ys ≡ [] → xs ≡ []
no_front [] ys e = refl
no_front (x ∷ xs) ys e = cc

pub no_back : {X : Type 0} (xs ys : List X) → xs ++ ys ≡ [] → ys ≡ []
no_back [] ys e = e
no_back (x ∷ xs) ys e = cc

pub step_balances : (p : Plans) (is : List ℕ) (w : Word) (xs ys : List Piece) → is ≡ [] → Step p is xs ys
    → sum_by (room w) xs + sum_by (uses w) ys ≡ sum_by (room w) ys + sum_by (uses w) xs
step_balances p is w xs ys e (turns a b t) =
    balances w a (equated t.left t.right ∷ []) b (equated t.right t.left ∷ []) t.rest t.given t.result (omega arith)
step_balances p is w xs ys e (puts a b t) =
    balances w a (equated t.named t.other ∷ idle t.named ∷ []) b (waits t.named t.other ∷ []) t.rest t.given t.result
    (omega (arith, twice (word_eq w t.named)))
step_balances p is w xs ys e (meets a b t) =
    balances w a (equated t.named t.other ∷ waits t.named t.waiting ∷ []) b (equated t.waiting t.other ∷ []) t.rest t.given t.result
    (omega arith)
step_balances p is w xs ys e (joins a b t) =
    balances w a (waits t.named t.between ∷ waits t.between t.waiting ∷ []) b (waits t.named t.waiting ∷ []) t.rest t.given t.result
    (omega arith)
step_balances p is w xs ys e (fires i a b t) = cc

pub steps_balance : (p : Plans) (is : List ℕ) (w : Word) (xs ys : List Piece) → is ≡ [] → Steps p is xs ys
    → sum_by (room w) xs + sum_by (uses w) ys ≡ sum_by (room w) ys + sum_by (uses w) xs
steps_balance p is w xs ys e (no_step a b h) =
    let u = sum_by-IsPermutation (uses w) a b h in
    let r = sum_by-IsPermutation (room w) a b h in
    omega arith
steps_balance p is w xs ys e (one_more m n a b c t u) =
    let first = steps_balance p m w a b (no_front m n e) t in
    let last = step_balances p n w b c (no_back m n e) u in
    omega arith

-- equations give no room
pub equations_room : (w : Word) (es : List Equation) → sum_by (room w) (map equated_of es) ≡ 0
equations_room w [] = refl
equations_room w (e ∷ es) =
    sum_by-cons (room w) (equated_of e) (map equated_of es) ∙ omega (arith, equations_room w es)
