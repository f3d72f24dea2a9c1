-- Names bound to places among words: one taken out, one put in.
use Rattle.std.proofs.Common.{◌≡◌, ℕ, ◌<◌, List, [], None, Some, cond, length, sym, ap, ◌∙◌, inl, inr, arith}
use Rattle.std.specs.Prelude.{nat_eq}
use Rattle.std.specs.Map.{lookup}
use Rattle.std.proofs.lemmas.Bool.{cases_Bool}
use Rattle.std.proofs.lemmas.Option.{same_Some}
use Rattle.ic_flat.specs.declared.word.Word.{Word}
use Rattle.ic_flat_round.specs.inner.Waits.{AreWithin}

pub within-removed : (ws : List Word) (es es' : List (ℕ × ℕ)) (x : ℕ) → AreWithin ws es
    → ((q : ℕ) → lookup (nat_eq q) es' ≡ cond (nat_eq x q) None (lookup (nat_eq q) es)) → AreWithin ws es'
within-removed ws es es' x within updates y place found = elim (cases_Bool (nat_eq x y)) [
  | inl e ↦ let gone : lookup (nat_eq y) es' ≡ None = updates y ∙ ap (λ b. cond b None (lookup (nat_eq y) es)) e in
      let bad : None ≡ Some place = sym gone ∙ found in cc
  | inr e ↦ within y place (sym (updates y ∙ ap (λ b. cond b None (lookup (nat_eq y) es)) e) ∙ found)
]

pub within-added : (ws : List Word) (es es' : List (ℕ × ℕ)) (x there : ℕ) → AreWithin ws es → there < length ws
    → ((q : ℕ) → lookup (nat_eq q) es' ≡ cond (nat_eq x q) (Some there) (lookup (nat_eq q) es)) → AreWithin ws es'
within-added ws es es' x there within inside updates y place found = elim (cases_Bool (nat_eq x y)) [
  | inl e ↦ let here : Some there ≡ Some place = sym (updates y ∙ ap (λ b. cond b (Some there) (lookup (nat_eq y) es)) e) ∙ found in
      let same : there ≡ place = same_Some there place here in
      omega (arith, same, inside)
  | inr e ↦ within y place (sym (updates y ∙ ap (λ b. cond b (Some there) (lookup (nat_eq y) es)) e) ∙ found)
]

-- nothing is bound yet
pub within-none : (ws : List Word) (es : List (ℕ × ℕ)) → es ≡ [] → AreWithin ws es
within-none ws es none y place found =
    let bad : None ≡ Some place = sym (ap (lookup (nat_eq y)) none) ∙ found in cc
