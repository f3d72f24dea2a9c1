-- Lemmas: what is taken of a text, where a shorter one is all of it.
use Rattle.std.proofs.Common.{◌≡◌, ℕ, ◌+◌, ◌≤◌, List, [], ◌++◌, length, drop, arith, ap, sym, ◌∙◌, append-nil, inl, inr}
use Rattle.std.proofs.lemmas.Bool.{cases_lt}
use Rattle.std.proofs.lemmas.List.{drop_all, drop_at}

module _ (most : ℕ) (text front rest : List ℕ) (parted : text ≡ front ++ rest) (few : length front ≤ most + 1) (end : length front ≤ most → rest ≡ []) where
  whole : length front ≤ most → text ≡ front
  whole fits = parted ∙ ap (λ (r : List ℕ). front ++ r) (end fits) ∙ append-nil front

  pub rest_left : rest ≡ drop (most + 1) text
  rest_left = elim (cases_lt most (length front)) [
    | inl long ↦ sym (ap (drop (most + 1)) parted ∙ drop_at front rest (most + 1) (omega (arith, long, few)))
    | inr fits ↦ end fits ∙ sym (ap (drop (most + 1)) (whole fits) ∙ drop_all (most + 1) front few)
  ]
