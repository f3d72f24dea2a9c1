-- Lemmas: which texts have rules.
use Rattle.std.proofs.Common.{◌≡◌, ℕ, ◌==◌, List, [], ◌∷◌, ◌++◌, Bool, true, false, refl, sym, ap, ◌∙◌}
use Rattle.std.proofs.lemmas.Bool.{and_parts, cond-false, cond-true, ne_eqb}
use Rattle.std.proofs.lemmas.List.{append-nil}
use Rattle.std.specs.List.{list_all}
use Rattle.ic_text.specs.Token.{is_blank}
use Rattle.ic_nets.specs.Draws.{has_rules}

-- ---- blanks before a brace

skipped : (r : Bool) (text : List ℕ) → has_rules text ≡ r → (blanks : List ℕ) → list_all is_blank blanks ≡ true → has_rules (blanks ++ text) ≡ r
skipped r text is [] all = is
skipped r text is (b ∷ blanks) all =
    let both = and_parts (is_blank b) (list_all is_blank blanks) all in
    cond-true (is_blank b) (has_rules (blanks ++ text)) (b == 123) both.0 ∙ skipped r text is blanks both.1

pub with_brace : (blanks rest : List ℕ) → list_all is_blank blanks ≡ true → has_rules (blanks ++ 123 ∷ rest) ≡ true
with_brace blanks rest all = skipped true (123 ∷ rest) refl blanks all

pub without_brace : (blanks : List ℕ) (b : ℕ) (rest : List ℕ) → list_all is_blank blanks ≡ true → is_blank b ≡ false → (b ≡ 123 → ⊥) → has_rules (blanks ++ b ∷ rest) ≡ false
without_brace blanks b rest all black isnt =
    skipped false (b ∷ rest) (cond-false (is_blank b) (has_rules rest) (b == 123) black ∙ ne_eqb b 123 isnt) blanks all

pub blank_text : (blanks : List ℕ) → list_all is_blank blanks ≡ true → has_rules blanks ≡ false
blank_text blanks all = ap has_rules (sym (append-nil blanks)) ∙ skipped false [] refl blanks all
