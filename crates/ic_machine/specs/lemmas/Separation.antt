-- Steps that fire nothing keep each place named no more often than it may be.
use Rattle.std.proofs.Common.{◌≡◌, ℕ, ◌+◌, ◌≤◌, List, ◌++◌, Bool, true, false, cond, refl, sym, ◌∙◌, arith, sum_by}
use Rattle.std.specs.List.Sorted.{IsPermutation}
use Rattle.std.proofs.lemmas.List.Sorted.{sum_by-IsPermutation}
use Rattle.std.proofs.lemmas.List.Sums.{sum_by-append}
use Rattle.ic_arena.specs.declared.word.Word.{Word}
use Rattle.ic_arena.specs.Piece.{Piece, room, uses}
use Rattle.ic_machine.specs.Separate.{IsSeparate}

-- a sum over pieces of which some are brought to the front
pub sum_of_parts : (f : Piece → ℕ) (xs front rest : List Piece) → IsPermutation xs (front ++ rest)
    → sum_by f xs ≡ sum_by f front + sum_by f rest
sum_of_parts f xs front rest h = sym (sum_by-IsPermutation f xs (front ++ rest) h) ∙ sum_by-append f front rest

pub twice : (b : Bool) → cond b 2 0 ≡ cond b 1 0 + cond b 1 0
twice true = refl
twice false = refl

-- a sum that is no greater after a step
pub fewer : (f : Piece → ℕ) (xs front ys after rest : List Piece) → IsPermutation xs (front ++ rest)
    → IsPermutation ys (after ++ rest) → sum_by f after ≤ sum_by f front → sum_by f ys ≤ sum_by f xs
fewer f xs front ys after rest given result less =
    omega (arith, sum_of_parts f xs front rest given, sum_of_parts f ys after rest result)

-- as much more room than it is named, for each word
pub balances : (w : Word) (xs front ys after rest : List Piece) → IsPermutation xs (front ++ rest) → IsPermutation ys (after ++ rest)
    → sum_by (room w) front + sum_by (uses w) after ≡ sum_by (room w) after + sum_by (uses w) front
    → sum_by (room w) xs + sum_by (uses w) ys ≡ sum_by (room w) ys + sum_by (uses w) xs
balances w xs front ys after rest given result same =
    let ux = sum_of_parts (uses w) xs front rest given in
    let uy = sum_of_parts (uses w) ys after rest result in
    let rx = sum_of_parts (room w) xs front rest given in
    let ry = sum_of_parts (room w) ys after rest result in
    omega arith

-- what is balanced stays separate
pub balanced : (arities : List ℕ) (i : List Word) (xs ys : List Piece)
    → ((w : Word) → sum_by (room w) xs + sum_by (uses w) ys ≡ sum_by (room w) ys + sum_by (uses w) xs)
    → IsSeparate arities i xs → IsSeparate arities i ys
balanced arities i xs ys same s = record { each = λ w c. omega (arith, s.each w c, same w) }

-- the order of pieces is no matter
pub separate_in_order : (arities : List ℕ) (i : List Word) (xs ys : List Piece) → IsPermutation xs ys
    → IsSeparate arities i xs → IsSeparate arities i ys
separate_in_order arities i xs ys h =
    balanced arities i xs ys (λ w. omega (arith, sum_by-IsPermutation (uses w) xs ys h, sum_by-IsPermutation (room w) xs ys h))
