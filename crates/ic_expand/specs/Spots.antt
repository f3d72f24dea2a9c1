-- Where in a text a rule begins, and where one is generic (this project's choice).
use Rattle.std.specs.Prelude.{ℕ, ◌==◌, List, Bool, ◌||◌, codes, if◌then◌else◌}
use Rattle.std.specs.Str.{bytes_eq}
use Rattle.ic_text.specs.Token.{is_blank}
use Rattle.ic_expand.specs.declared.spot.Kind.TheVariants.{Copier, Eraser}
use Rattle.ic_expand.specs.declared.spot.Spot.{Spot}
use Rattle.ic_expand.specs.declared.spot.Spot.TheVariants.{Elsewhere, Opening, Asked, Given}
use Rattle.ic_expand.specs.Pieces.{first_byte}

-- a rule begins after `{`, and after `;`
abbrev pub opens_rule : ℕ → Bool
opens_rule b = b == 123 || b == 59

-- what follows the first word of a rule: after `copy` or `erase` the symbol that it is of
abbrev pub after_first : List ℕ → Spot
after_first p = if bytes_eq p (codes "copy") then Asked Copier
    else (if bytes_eq p (codes "erase") then Asked Eraser else Elsewhere)

-- what follows a piece that begins no rule
abbrev pub after_other : Spot → List ℕ → Spot
after_other Opening p = after_first p
after_other (Asked kind) p = Given
after_other Given p = Elsewhere
after_other Elsewhere p = Elsewhere

-- where the text is after a piece: a blank changes nothing
abbrev pub after : Spot → List ℕ → Spot
after spot p = if is_blank (first_byte p) then spot
    else (if opens_rule (first_byte p) then Opening else after_other spot p)
