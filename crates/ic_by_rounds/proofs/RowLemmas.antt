-- Lemmas: the row at a place.
use Rattle.std.proofs.Common.{◌≡◌, ℕ, zero, suc, ◌<◌, ◌≤◌, List, [], ◌∷◌, length, sym, ap, ◌∙◌, subst, ⊎_elim, arith}
use Rattle.std.specs.Prelude.{get_or}
use Rattle.std.proofs.lemmas.Bool.{cases_lt}
use Rattle.std.proofs.lemmas.List.{get_or_append_left}
use Rattle.std.proofs.Math.Seq.{get_or-append_seam}
use Rattle.ic_term.specs.Configuration.{Configuration}
use Rattle.ic_rules.specs.Rule.{Rule}
use Rattle.ic_by_rounds.proofs.Interactions.{as_many_rows}
use Rattle.ic_by_rounds.specs.Tracing.{row_after, rows_of}
use Rattle.ic_by_rounds.specs.declared.row.Row.{Row}

pub row_at : (rs : List Rule) (c : Configuration) (n k : ℕ) (other : Row) → k < n
    → get_or (rows_of rs c n) k other ≡ row_after rs c k
row_at rs c zero k other less = absurd (omega (arith, less))
row_at rs c (suc n) k other less =
    let Q : Type 0 = get_or (rows_of rs c (suc n)) k other ≡ row_after rs c k in
    let front : k < n → Q = λ before.
    let within : k < length (rows_of rs c n) = subst (λ m. k < m) (sym (as_many_rows rs c n)) before in
    get_or_append_left (rows_of rs c n) (row_after rs c n ∷ []) other k within ∙ row_at rs c n k other before in
    let last : n ≤ k → Q = λ not.
    let same : k ≡ n = omega (arith, less, not) in
    let P : ℕ → Type 0 = λ i. get_or (rows_of rs c (suc n)) i other ≡ row_after rs c i in
    let len : length (rows_of rs c n) ≡ n = as_many_rows rs c n in
    subst P (sym same) (ap (λ i. get_or (rows_of rs c (suc n)) i other) (sym len)
    ∙ get_or-append_seam (rows_of rs c n) (row_after rs c n) [] other) in
    ⊎_elim front last (cases_lt k n)
