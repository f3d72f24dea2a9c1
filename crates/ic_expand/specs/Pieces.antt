-- The words of a text, and what stands between them (this project's choice).
use Rattle.std.specs.Prelude.{ℕ, ◌==◌, List, [], ◌∷◌, Bool, false, ◌&&◌, ◌||◌, if◌then◌else◌}
use Rattle.ic_text.specs.Token.{is_word_byte}

-- a letter, a digit, `-` or `_`
abbrev pub joins : ℕ → Bool
joins b = is_word_byte b || b == 95

-- whether a piece is a word, as its first byte tells
abbrev pub is_word : List ℕ → Bool
is_word [] = false
is_word (b ∷ bs) = joins b

-- a byte before pieces: it makes one word with a word that follows, if it is of words itself
abbrev pub with_byte : ℕ → List (List ℕ) → List (List ℕ)
with_byte b [] = (b ∷ []) ∷ []
with_byte b (p ∷ ps) = if joins b && is_word p then (b ∷ p) ∷ ps else (b ∷ []) ∷ p ∷ ps

-- the pieces of a text: its words, which are longest, and each other byte by itself
abbrev pub pieces : List ℕ → List (List ℕ)
pieces [] = []
pieces (b ∷ bs) = with_byte b (pieces bs)

-- the first byte of a piece
abbrev pub first_byte : List ℕ → ℕ
first_byte [] = 0
first_byte (b ∷ bs) = b
