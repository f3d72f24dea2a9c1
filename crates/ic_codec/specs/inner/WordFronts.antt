-- Words as bytes, and what a front of bytes is, as words are read. Inner: private functions cite it.
use Rattle.std.specs.Prelude.{◌≡◌, ◌≢◌, ◌^◌, ◌<◌, ◌≤◌, ℕ, List, [], ◌∷◌, ◌++◌, length, Bool, true, false, IsTrue}
use Rattle.std.specs.List.{flat_map, AllByRecursion}
use Rattle.ic_term.specs.Symbol.{Symbol}
use Rattle.ic_flat.specs.declared.word.Word.{Word}
use Rattle.ic_flat.specs.declared.word.Word.TheVariants.{Name, Agent}
use Rattle.ic_flat.specs.Words.{forest, IsWhole, word_names, is_word_over}
use Rattle.ic_codec.specs.Numbers.{eight_bytes}

-- a name is the byte 255 and its number, an agent its symbol in one byte
abbrev pub word_bytes : Word → List ℕ
word_bytes (Name n) = 255 ∷ eight_bytes n
word_bytes (Agent s arity) = s ∷ []

-- a word is an agent, and no name
abbrev pub is_agent : Word → Bool
is_agent (Name n) = false
is_agent (Agent s arity) = true

-- A word that has bytes: an agent's symbol is known, with as many arguments as its arity, and a name
-- fits in eight bytes.
pub record HasWordBytes (ss : List Symbol) (w : Word) : Type 0 where
  pub over : IsTrue (is_word_over ss w)
  pub names : AllByRecursion (λ n. n < 2 ^ 64) (word_names w)

-- The bytes begin with those of whole words that write so many terms; this rest follows.
pub record BeginsWithWords (ss : List Symbol) (count : ℕ) (bytes : List ℕ) (ws : List Word)
    (rest : List ℕ) : Type 0 where
  pub parts : bytes ≡ flat_map word_bytes ws ++ rest
  pub has_bytes : AllByRecursion (HasWordBytes ss) ws
  pub whole : IsWhole ws
  pub many : length (forest ws) ≡ count

-- They begin with those of no such words, of at most so many.
abbrev pub BeginsWithNoWords : List Symbol → ℕ → ℕ → List ℕ → Type 0
BeginsWithNoWords ss count most bytes =
    (ws : List Word) (rest : List ℕ) → AllByRecursion (HasWordBytes ss) ws → IsWhole ws
    → length (forest ws) ≡ count → length ws ≤ most → bytes ≢ flat_map word_bytes ws ++ rest
