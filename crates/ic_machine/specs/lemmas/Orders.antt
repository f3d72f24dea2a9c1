-- Lists whose order means nothing.
use Rattle.std.proofs.Common.{◌≡◌, ℕ, ◌+◌, List, ◌++◌, ap, subst, ◌∙◌, append_assoc, arith, sum_by}
use Rattle.std.specs.List.Sorted.{IsPermutation}
use Rattle.std.proofs.lemmas.List.Sorted.{IsPermutation-append_left, IsPermutation-append_comm}
use Rattle.std.proofs.lemmas.List.Sums.{sum_by-append}
use Rattle.ic_arena.specs.Piece.{Piece}
use Rattle.ic_arena.specs.Tables.{Replaced}

-- a part in the middle goes to the front
pub to_front : {X : Type 0} (f o b : List X) → IsPermutation (f ++ (o ++ b)) (o ++ (f ++ b))
to_front f o b = subst (λ l. IsPermutation l (o ++ (f ++ b))) (append_assoc f o b)
    (subst (λ l. IsPermutation ((f ++ o) ++ b) l) (append_assoc o f b)
    (IsPermutation-append_left b (f ++ o) (o ++ f) (IsPermutation-append_comm f o)))

-- what is replaced goes to the front
pub replaced_before : (old new xs ys : List Piece) (r : Replaced old new xs ys)
    → IsPermutation xs (old ++ (r.front ++ r.back))
replaced_before old new xs ys r = rw r.before (to_front r.front old r.back)

pub replaced_after : (old new xs ys : List Piece) (r : Replaced old new xs ys)
    → IsPermutation ys (new ++ (r.front ++ r.back))
replaced_after old new xs ys r = rw r.after (to_front r.front new r.back)

-- how a sum changes where a part is replaced
pub replaced_sum : (f : Piece → ℕ) (old new xs ys : List Piece) → Replaced old new xs ys
    → sum_by f ys + sum_by f old ≡ sum_by f xs + sum_by f new
replaced_sum f old new xs ys r =
    let a : sum_by f xs ≡ sum_by f r.front + (sum_by f old + sum_by f r.back) =
    ap (sum_by f) r.before ∙ (sum_by-append f r.front (old ++ r.back)
    ∙ ap (λ n. sum_by f r.front + n) (sum_by-append f old r.back)) in
    let b : sum_by f ys ≡ sum_by f r.front + (sum_by f new + sum_by f r.back) =
    ap (sum_by f) r.after ∙ (sum_by-append f r.front (new ++ r.back)
    ∙ ap (λ n. sum_by f r.front + n) (sum_by-append f new r.back)) in
    omega arith
