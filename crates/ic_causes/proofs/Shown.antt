-- What a line shows of a path.
use Rattle.std.proofs.Common.{◌≡◌, ℕ, true, List, [], ◌∷◌, refl, ap, ◌∙◌}
use Rattle.std.specs.Prelude.{if◌then◌else◌}
use Rattle.std.specs.List.{list_all}
use Rattle.std.proofs.lemmas.Bool.{and_from, and_parts, cond_both}
use Rattle.ic_causes.specs.Causes.{is_printable, shown_byte, shown_path}

printable : (b : ℕ) → is_printable (shown_byte b) ≡ true
printable b = cond_both (is_printable b) b 63 (λ x. is_printable x ≡ true) (λ is. is) (λ _. refl)

pub all_printable : (path : List ℕ) → list_all is_printable (shown_path path) ≡ true
all_printable [] = refl
all_printable (b ∷ bs) = and_from (is_printable (shown_byte b)) (list_all is_printable (shown_path bs)) (printable b) (all_printable bs)

itself : (b : ℕ) → is_printable b ≡ true → shown_byte b ≡ b
itself b is = ap (λ x. if x then b else 63) is

pub all_themselves : (path : List ℕ) → list_all is_printable path ≡ true → shown_path path ≡ path
all_themselves [] are = refl
all_themselves (b ∷ bs) are =
    let parts = and_parts (is_printable b) (list_all is_printable bs) are in
    ap (λ x. x ∷ shown_path bs) (itself b parts.0) ∙ ap (λ xs. b ∷ xs) (all_themselves bs parts.1)
