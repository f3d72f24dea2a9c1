-- Names are counted up to two.
use Rattle.std.proofs.Common.{◌≡◌, ◌⊎◌, ℕ, ◌+◌, ◌<◌, ◌==◌, List, Some, cond, length, take, get_or, min, ap, sym, ◌∙◌, arith, inl, inr}
use Rattle.std.specs.Prelude.{unwrap_or}
use Rattle.std.proofs.lemmas.Bool.{cases_eq, eq-eqb, ne_eqb}
use Rattle.std.proofs.lemmas.List.Sums.{count_by_more_yes, count_by_more_no}
use Rattle.ic_names.specs.declared.table.NameTable.{NameTable}
use Rattle.ic_names.specs.Table.{found}
use Rattle.ic_term.specs.Configuration.{occurrences}
use Rattle.ic_check.specs.inner.Tallies.{IsTally, tallied}

one_more : (seen count number more : ℕ) → seen ≡ min count 2 → number ≡ min seen 1 + 1 → more ≡ count + 1 → number ≡ min more 2
one_more seen count number more was is counted = omega arith

pub tally_more : (names : List ℕ) (i number : ℕ) (old new : NameTable) → i < length names → number ≡ min (tallied old (get_or names i 0)) 1 + 1
    → ((x : ℕ) → found new x ≡ cond (get_or names i 0 == x) (Some number) (found old x)) → IsTally (take i names) old → IsTally (take (i + 1) names) new
tally_more names i number old new within is updated so_far x = by_name (cases_eq (get_or names i 0) x) where
  by_name : (get_or names i 0 ≡ x) ⊎ (get_or names i 0 ≡ x → ⊥) → tallied new x ≡ min (occurrences x (take (i + 1) names)) 2
  by_name (inl e) =
      ap (λ o. unwrap_or o 0) (updated x ∙ ap (λ b. cond b (Some number) (found old x)) (eq-eqb (get_or names i 0) x e))
      ∙ one_more (tallied old x) (occurrences x (take i names)) number (occurrences x (take (i + 1) names)) (so_far x) (is ∙ ap (λ y. min (tallied old y) 1 + 1) e)
      (count_by_more_yes (λ y. y == x) names i 0 within (eq-eqb (get_or names i 0) x e))
  by_name (inr e) =
      ap (λ o. unwrap_or o 0) (updated x ∙ ap (λ b. cond b (Some number) (found old x)) (ne_eqb (get_or names i 0) x e)) ∙ so_far x
      ∙ ap (λ k. min k 2) (sym (count_by_more_no (λ y. y == x) names i 0 within (ne_eqb (get_or names i 0) x e)))

pub same_once : (seen count : ℕ) → seen ≡ min count 2 → (seen == 1) ≡ (count == 1)
same_once seen count is = elim (cases_eq count 1) [
  | inl once ↦ eq-eqb seen 1 (omega (arith, is, once)) ∙ sym (eq-eqb count 1 once)
  | inr not ↦ ne_eqb seen 1 (λ once. not (omega (arith, is, once))) ∙ sym (ne_eqb count 1 not)
]
