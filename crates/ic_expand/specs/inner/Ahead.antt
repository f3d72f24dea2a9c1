-- What stands ahead in a text, as it is found from the last byte on.
use Rattle.std.specs.Prelude.{ℕ, ◌+◌, ◌==◌, List, [], ◌∷◌, ◌++◌, Option, drop, get_or, if◌then◌else◌}
use Rattle.std.specs.List.{position}
use Rattle.std.specs.Str.{bytes_eq}
use Rattle.ic_text.specs.Token.{is_blank}
use Rattle.ic_expand.specs.Reading.{beyond, commas, leading_word}

-- what is said of the text after each byte that is this mark, of the last one first
abbrev pub marks : {X : Type 0} → (mark : ℕ) → (List ℕ → X) → List ℕ → List X
marks mark f [] = []
marks mark f (b ∷ bs) = if b == mark then marks mark f bs ++ f bs ∷ [] else marks mark f bs

-- the commas after each `(` before the `)` that closes it
abbrev pub counts_of : List ℕ → List ℕ
counts_of text = marks 40 (commas 0) text

-- the place among these words of the one after the next `<`
abbrev pub side : List (List ℕ) → List ℕ → Option ℕ
side known text = position (bytes_eq (leading_word (beyond 60 text))) known

-- such a place after each `>`
abbrev pub sides_of : List (List ℕ) → List ℕ → List (Option ℕ)
sides_of known text = marks 62 (side known) text

-- how many commas stand in each parenthesis that is open before a byte, by how many after it
abbrev pub with_level : ℕ → List ℕ → List ℕ
with_level b l = if b == 40 then drop 1 l else (if b == 41 then 0 ∷ l
    else (if b == 44 then (1 + get_or l 0 0) ∷ drop 1 l else l))

-- how many commas stand in each parenthesis that is open before a text, the innermost first
abbrev pub levels : List ℕ → List ℕ
levels [] = []
levels (b ∷ bs) = with_level b (levels bs)

-- the arguments with which a text goes on, where the first `(` has so many commas
abbrev pub arguments_by : ℕ → List ℕ → ℕ
arguments_by count [] = 0
arguments_by count (b ∷ bs) = if is_blank b then arguments_by count bs
    else (if b == 40 then 1 + count else 0)
