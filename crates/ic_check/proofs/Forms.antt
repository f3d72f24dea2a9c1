-- The form of a file.
use Rattle.std.proofs.Common.{◌≡◌, ℕ, ◌==◌, true, false, List, [], ◌∷◌, ◌++◌, codes, refl, ap, ◌∙◌, append_assoc}
use Rattle.std.specs.List.{list_all}
use Rattle.std.proofs.lemmas.Bool.{and_parts}
use Rattle.ic_text.specs.Token.{is_blank}
use Rattle.ic_check.specs.Faults.{first_of, form_by, form_of}
use Rattle.ic_check.specs.declared.texts.Form.TheVariants as form

after : (blanks rest : List ℕ) → list_all is_blank blanks ≡ true → first_of (blanks ++ rest) ≡ first_of rest
after [] rest are = refl
after (b ∷ bs) rest are = let parts = and_parts (is_blank b) (list_all is_blank bs) are in rw parts.0 (after bs rest parts.1)

pub of_system : (blanks rest : List ℕ) → list_all is_blank blanks ≡ true → form_of (blanks ++ codes "{" ++ rest) ≡ form.System
of_system blanks rest are = ap form_of (append_assoc blanks (codes "{") rest) ∙ ap form_by (after blanks (codes "{" ++ rest) are)

pub of_config : (blanks rest : List ℕ) → list_all is_blank blanks ≡ true → form_of (blanks ++ codes "<" ++ rest) ≡ form.Config
of_config blanks rest are = ap form_of (append_assoc blanks (codes "<") rest) ∙ ap form_by (after blanks (codes "<" ++ rest) are)

pub of_comment : (blanks rest : List ℕ) → list_all is_blank blanks ≡ true → form_of (blanks ++ codes "#" ++ rest) ≡ form.Commented
of_comment blanks rest are = ap form_of (append_assoc blanks (codes "#") rest) ∙ ap form_by (after blanks (codes "#" ++ rest) are)

pub of_lines : (blanks rest : List ℕ) (b : ℕ) → list_all is_blank blanks ≡ true → is_blank b ≡ false → (b == 123) ≡ false → (b == 60) ≡ false → (b == 35) ≡ false → form_of (blanks ++ b ∷ rest) ≡ form.Lines
of_lines blanks rest b are no_blank no_system no_config no_comment = ap form_by (after blanks (b ∷ rest) are) ∙ rw no_blank (rw no_system (rw no_config (rw no_comment refl)))

pub of_blanks : (blanks : List ℕ) → list_all is_blank blanks ≡ true → form_of blanks ≡ form.Lines
of_blanks [] are = refl
of_blanks (b ∷ bs) are = let parts = and_parts (is_blank b) (list_all is_blank bs) are in rw parts.0 (of_blanks bs parts.1)
