-- The names of a text, and what they are written as (this project's choice).
use Rattle.std.specs.Prelude.{◌≡◌, ℕ, ◌+◌, ◌==◌, List, [], ◌∷◌, ◌++◌, Bool, false, ◌&&◌, ◌||◌, not, Option, None, Some, IsTrue, filter, get_or, length, if◌then◌else◌}
use Rattle.std.specs.List.{fold, list_all, list_any, position, range_with_len, AllByRecursion}
use Rattle.std.specs.Str.{bytes_eq}
use Rattle.std.specs.Char.{is_ascii_alphanumeric, is_ascii_lowercase}
use Rattle.ic_text.specs.Name.{is_name, name_text}
use Rattle.ic_expand.specs.declared.names.Spelling.{Spelling}
use Rattle.ic_expand.specs.declared.names.Spelling.TheVariants.{Short, Long}
use Rattle.ic_expand.specs.declared.spot.Spot.{Spot}
use Rattle.ic_expand.specs.declared.spot.Spot.TheVariants.{Elsewhere, Opening}
use Rattle.ic_expand.specs.Spots.{after}

abbrev pub is_name_byte : ℕ → Bool
is_name_byte b = is_ascii_alphanumeric b || b == 95

-- a small letter, and then letters, digits and `_`
abbrev pub is_rich_name : List ℕ → Bool
is_rich_name [] = false
is_rich_name (b ∷ bs) = is_ascii_lowercase b && list_all is_name_byte bs

-- whether a piece is a name, of the calculus or else a long one
abbrev pub is_spelt : Spelling → List ℕ → Bool
is_spelt Short p = is_name p
is_spelt Long p = is_rich_name p && not (is_name p)

-- no name begins a rule
abbrev pub is_named : Spelling → Spot → List ℕ → Bool
is_named spelling Opening p = false
is_named spelling spot p = is_spelt spelling p

-- the names of a text, as often as they stand
abbrev pub names : Spelling → Spot → List (List ℕ) → List (List ℕ)
names spelling spot [] = []
names spelling spot (p ∷ ps) = if is_named spelling spot p then p ∷ names spelling (after spot p) ps
    else names spelling (after spot p) ps

abbrev pub is_among : List ℕ → List (List ℕ) → Bool
is_among w ws = list_any (bytes_eq w) ws

-- a word after others, unless it is one of them
abbrev pub with_word : List (List ℕ) → List ℕ → List (List ℕ)
with_word ws w = if is_among w ws then ws else ws ++ w ∷ []

-- the names of a text by first occurrence, each once
abbrev pub names_of : Spelling → List (List ℕ) → List (List ℕ)
names_of spelling ps = fold with_word [] (names spelling Elsewhere ps)

-- of the first n numbers those whose names aren't among these
abbrev pub spare_numbers : List (List ℕ) → (n : ℕ) → List ℕ
spare_numbers shorts n = filter (λ k. not (is_among (name_text k) shorts)) (range_with_len 0 n)

-- as many numbers as there are long names, or more
abbrev pub spare_of : (shorts longs : List (List ℕ)) → List ℕ
spare_of shorts longs = spare_numbers shorts (length shorts + length longs)

-- the name with the number at this place, or the word itself
abbrev pub told_at : List ℕ → List ℕ → Option ℕ → List ℕ
told_at spare w None = w
told_at spare w (Some k) = name_text (get_or spare k 0)

-- What a word is written as: a long name as the name with the spare number at its place. Any other
-- word stays.
abbrev pub told_word : (longs : List (List ℕ)) → (spare : List ℕ) → List ℕ → List ℕ
told_word longs spare w = told_at spare w (position (bytes_eq w) longs)

-- different words of a list stay different
abbrev pub AreApart : (List ℕ → List ℕ) → List (List ℕ) → Type 0
AreApart f ws = AllByRecursion (λ v. AllByRecursion (λ w. f v ≡ f w → v ≡ w) ws) ws

-- Names are turned into others one to one: each becomes a name of the calculus, and one that is of the
-- calculus stays.
pub record IsRenaming (f : List ℕ → List ℕ) (ns : List (List ℕ)) : Type 0 where
  pub apart : AreApart f ns
  pub told : AllByRecursion (λ n. IsTrue (is_name (f n))) ns
  pub kept : (n : List ℕ) → IsTrue (is_name n) → f n ≡ n
