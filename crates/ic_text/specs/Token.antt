-- What the tokens of a text are.
use Rattle.std.specs.Prelude.{ℕ, ◌==◌, List, [], ◌∷◌, ◌++◌, Bool, ◌||◌, Option, None, Some, if◌then◌else◌}
use Rattle.std.specs.Char.{is_ascii_alphanumeric}
use Rattle.ic_text.specs.declared.token.Mark.{Mark}
use Rattle.ic_text.specs.declared.token.Mark.TheVariants.{LeftBrace, RightBrace, Less, Greater, Bar, Equals, Comma, Semicolon, Open, Close}

-- A token of a text: a word, or a mark by itself (this project's choice).
pub data Token : Type 0 where
  word : List ℕ → Token
  mark : Mark → Token

-- space, tab, line feed, carriage return
abbrev pub is_blank : ℕ → Bool
is_blank b = b == 32 || b == 9 || b == 10 || b == 13

-- a letter, a digit or `-`
abbrev pub is_word_byte : ℕ → Bool
is_word_byte b = is_ascii_alphanumeric b || b == 45

-- the byte of a mark: `{ } < > | = , ; ( )`
abbrev pub mark_byte : Mark → ℕ
mark_byte LeftBrace = 123
mark_byte RightBrace = 125
mark_byte Less = 60
mark_byte Greater = 62
mark_byte Bar = 124
mark_byte Equals = 61
mark_byte Comma = 44
mark_byte Semicolon = 59
mark_byte Open = 40
mark_byte Close = 41

-- the mark that a byte is
abbrev pub mark_of : ℕ → Option Mark
mark_of b =
    if b == 123 then Some LeftBrace
    else (if b == 125 then Some RightBrace
    else (if b == 60 then Some Less
    else (if b == 62 then Some Greater
    else (if b == 124 then Some Bar
    else (if b == 61 then Some Equals
    else (if b == 44 then Some Comma
    else (if b == 59 then Some Semicolon
    else (if b == 40 then Some Open
    else (if b == 41 then Some Close else None)))))))))

-- the word that a run of word bytes makes: none for an empty run
abbrev pub word_of : List ℕ → List Token
word_of [] = []
word_of (b ∷ bs) = word (b ∷ bs) ∷ []

-- these tokens, then the others
abbrev pub before : List Token → Option (List Token) → Option (List Token)
before front None = None
before front (Some ts) = Some (front ++ ts)

-- the tokens at a byte that is no word byte: a mark is one, a blank none, and any other byte spoils
-- the text
abbrev pub tokens_at : ℕ → Option Mark → Option (List Token)
tokens_at b (Some m) = Some (mark m ∷ [])
tokens_at b None = if is_blank b then Some [] else None

-- these tokens, then those, unless there are none
abbrev pub followed : Option (List Token) → Option (List Token) → Option (List Token)
followed None rest = None
followed (Some ts) rest = before ts rest

-- The tokens of a text that follows a run of word bytes. A word is a longest run (this project's
-- choice).
abbrev pub tokens_after : List ℕ → List ℕ → Option (List Token)
tokens_after run [] = Some (word_of run)
tokens_after run (b ∷ bs) =
    if is_word_byte b then tokens_after (run ++ b ∷ []) bs
    else before (word_of run) (followed (tokens_at b (mark_of b)) (tokens_after [] bs))

-- the tokens of a text without its blanks, or none where there is another byte (this project's
-- choice)
abbrev pub tokens : List ℕ → Option (List Token)
tokens bytes = tokens_after [] bytes

-- the words among tokens, in order
abbrev pub words_among : List Token → List (List ℕ)
words_among [] = []
words_among (word w ∷ ts) = w ∷ words_among ts
words_among (mark m ∷ ts) = words_among ts

-- a token as it stands in a text
abbrev pub token_text : Token → List ℕ
token_text (word bytes) = bytes
token_text (mark m) = mark_byte m ∷ []
