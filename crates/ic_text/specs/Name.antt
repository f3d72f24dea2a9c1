-- The texts of names.
use Rattle.std.specs.Prelude.{ℕ, ◌+◌, ◌-◌, ◌*◌, ◌/◌, ◌%◌, ◌==◌, List, [], ◌∷◌, Bool, true, false, ◌&&◌, not, Option, None, Some, map, nat_le, if◌then◌else◌}
use Rattle.std.specs.List.{list_all}
use Rattle.std.specs.Int.Digits.{digits_of, number_from_digits}
use Rattle.std.specs.Char.{is_ascii_lowercase, is_ascii_digit}

-- The text of a name: a letter a..z, and k in decimal digits where k isn't 0. Its number is
-- 26 * k + letter, a being 0 (this project's choice).
abbrev pub name_text : ℕ → List ℕ
name_text n = (97 + n % 26) ∷ map (λ d. 48 + d) (digits_of 10 (n / 26))

-- nothing, or digits without a leading zero
abbrev pub is_numeral : List ℕ → Bool
is_numeral [] = true
is_numeral (d ∷ ds) = not (d == 48) && list_all is_ascii_digit (d ∷ ds)

-- a word that is some name's text
abbrev pub is_name : List ℕ → Bool
is_name [] = false
is_name (b ∷ ds) = is_ascii_lowercase b && is_numeral ds

-- the number that the digits write
abbrev pub number_in : List ℕ → ℕ
number_in ds = number_from_digits 10 (map (λ d. d - 48) ds)

-- the number of a name with this text
abbrev pub name_number : List ℕ → ℕ
name_number [] = 0
name_number (b ∷ ds) = 26 * number_in ds + (b - 97)

-- a number, unless it is too great
abbrev pub up_to : ℕ → ℕ → Option ℕ
up_to most n = if nat_le n most then Some n else None
