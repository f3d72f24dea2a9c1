-- Which texts say of themselves that they are rich (this project's choice).
use Rattle.std.specs.Prelude.{ℕ, List, [], ◌∷◌, Bool, true, ◌&&◌, ◌||◌, codes, drop, take}
use Rattle.std.specs.Str.{bytes_eq}
use Rattle.ic_text.specs.Token.{is_blank}

-- a word ends before what follows it
abbrev pub ends_word : List ℕ → Bool
ends_word [] = true
ends_word (b ∷ bs) = is_blank b

-- a text begins with the word `#rich`
abbrev pub is_marked : List ℕ → Bool
is_marked text = bytes_eq (take 5 text) (codes "#rich") && ends_word (drop 5 text)

-- a text is rich where that is said, or where it is marked
abbrev pub is_rich : (said : Bool) → List ℕ → Bool
is_rich said text = said || is_marked text
