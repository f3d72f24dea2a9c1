-- Which texts have forms that stand for others (this project's choice). What they stand for is tried.
use Rattle.std.specs.Prelude.{ℕ, ◌==◌, List, [], ◌∷◌, Bool, false, ◌&&◌, ◌||◌, codes, length, nat_le, if◌then◌else◌}
use Rattle.std.specs.Str.{bytes_eq}
use Rattle.ic_text.specs.Token.{is_blank}
use Rattle.ic_expand.specs.declared.limits.TheConstants.{MAX_RICH_TEXT}
use Rattle.ic_expand.specs.Comments.{uncommented}
use Rattle.ic_expand.specs.Pieces.{first_byte, pieces}
use Rattle.ic_expand.specs.Spots.{after}
use Rattle.ic_expand.specs.declared.spot.Spot.{Spot}
use Rattle.ic_expand.specs.declared.spot.Spot.TheVariants.{Elsewhere, Opening, Asked, Given}

-- two marks that stand so in forms alone, with or without blanks between: `=>`, and `;}` and `,>` at an end
abbrev pub are_form : (before : ℕ) → ℕ → Bool
are_form before b = (before == 61 && b == 62) || (before == 59 && b == 125) || (before == 44 && b == 62)

-- the marks and words of forms: of lists, powers, equations and files, of declarations, and of terms with names
abbrev pub is_form : List ℕ → Bool
is_form p = bytes_eq p (codes "[") || bytes_eq p (codes "^") || bytes_eq p (codes "~")
    || bytes_eq p (codes "number") || bytes_eq p (codes "list") || bytes_eq p (codes "pair") || bytes_eq p (codes "let") || bytes_eq p (codes "use")

-- the byte that stands before what follows a piece, blanks apart
abbrev pub after_piece : (before : ℕ) → List ℕ → ℕ
after_piece before p = if is_blank (first_byte p) then before else first_byte p

-- a `,` after the symbol of a `copy` or an `erase`
abbrev pub goes_on : Spot → ℕ → Bool
goes_on Given b = b == 44
goes_on Elsewhere b = false
goes_on Opening b = false
goes_on (Asked kind) b = false

-- whether pieces have a form
abbrev pub have_form : (before : ℕ) → Spot → List (List ℕ) → Bool
have_form before spot [] = false
have_form before spot (p ∷ ps) = are_form before (first_byte p) || is_form p || goes_on spot (first_byte p)
    || have_form (after_piece before p) (after spot p) ps

-- whether a text that isn't too long has a form, outside its comments
abbrev pub has_form : List ℕ → Bool
has_form text = nat_le (length text) MAX_RICH_TEXT && have_form 0 Elsewhere (pieces (uncommented text))
