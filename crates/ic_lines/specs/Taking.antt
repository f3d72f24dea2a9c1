-- What a buffer of lines holds, and what it takes from a reader.
use Rattle.std.specs.Prelude.{◌≡◌, ℕ, ◌<◌, List, [], ◌∷◌, ◌++◌, false, Option, None, Some, refl, ⊤}
use Rattle.std.specs.Coded.{Coded, code_by, coded×, coded_ℕ, coded_list}
use Rattle.std.specs.Io.KnownBytes.{prepend_known}
use Rattle.std.specs.Prelude.{length}
use Rattle.ic_text.specs.declared.limits.TheConstants.{MAX_TEXT}
use Rattle.ic_lines.specs.Lines.{has_feed, lines}

-- A line that was taken, without its line feed, and the bytes that were read and not yet taken.
pub record BufferParts : Type 0 where
  pub line : List ℕ
  pub ahead : List ℕ

-- a buffer is stored as the pair of its fields
abbrev pub coded_buffer : Coded BufferParts
coded_buffer =
    code_by (List ℕ × List ℕ)
    (coded× (coded_list coded_ℕ) (coded_list coded_ℕ))
    (λ b. (b.line, b.ahead))
    (λ p. record { line = p.0; ahead = p.1 })
    (λ _. refl)

-- the bytes that are to come: those that were read ahead, and what the reader has left
abbrev pub to_come : BufferParts → Option (List ℕ) → Option (List ℕ)
to_come b remaining = prepend_known b.ahead remaining

-- a line is taken: it was the first of those to come
abbrev pub TakesLine : List ℕ → Option (List ℕ) → Option (List ℕ) → Type 0
TakesLine line None new = ⊤
TakesLine line (Some old) None = ⊥
TakesLine line (Some old) (Some new) = lines old ≡ line ∷ lines new

-- these bytes are the first line of some, which has its line feed
pub record IsFed (line bytes : List ℕ) : Type 0 where
  pub rest : List ℕ
  pub unfed : has_feed line ≡ false
  pub parted : bytes ≡ line ++ 10 ∷ rest

-- no line is to come
abbrev pub HasNoLine : Option (List ℕ) → Type 0
HasNoLine None = ⊤
HasNoLine (Some text) = lines text ≡ []

-- the next line has more bytes than a line may have
pub record IsTooLong (text : List ℕ) : Type 0 where
  pub line : List ℕ
  pub rest : List (List ℕ)
  pub first : lines text ≡ line ∷ rest
  pub long : MAX_TEXT < length line

abbrev pub HasLongLine : Option (List ℕ) → Type 0
HasLongLine None = ⊤
HasLongLine (Some text) = IsTooLong text
