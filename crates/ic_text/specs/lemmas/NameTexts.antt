-- The text of a name: a letter, and digits where its number is 26 or more.
use Rattle.std.proofs.Common.{◌≡◌, ◌↔◌, ℕ, ◌+◌, ◌*◌, ◌/◌, ◌%◌, ◌<◌, ◌^◌, List, [], ◌∷◌, IsTrue, refl, sym, ap, ◌∙◌, arith}
use Rattle.std.specs.Fmt.{decimal}
use Rattle.std.proofs.lemmas.Fmt.{decimal-digits_of}
use Rattle.ic_text.specs.Name.{name_text, is_name, name_number}
use Rattle.ic_text.specs.lemmas.NameLemmas.{is_name-name_text, name_text-name_number}

pub name_text-letter : (l : ℕ) → l < 26 → name_text l ≡ (97 + l) ∷ []
name_text-letter l low =
    let letter : l % 26 ≡ l = omega arith in
    let none : l / 26 ≡ 0 = omega arith in
    rw (letter, none) refl

pub name_text-digits : (k l : ℕ) → 0 < k → k < 2 ^ 64 → l < 26 → name_text (26 * k + l) ≡ (97 + l) ∷ decimal k
name_text-digits k l some fits low =
    let letter : (26 * k + l) % 26 ≡ l = omega arith in
    let digits : (26 * k + l) / 26 ≡ k = omega arith in
    rw (letter, digits) (ap (λ ds. (97 + l) ∷ ds) (sym (decimal-digits_of k some fits)))

pub is_name-text : (w : List ℕ) → IsTrue (is_name w) ↔ ((n : ℕ) × (w ≡ name_text n))
is_name-text w = (
  λ is. (name_number w, sym (name_text-name_number w is)),
  λ text. ap is_name text.1 ∙ is_name-name_text text.0,
)
