-- For private functions: what a reader has read.
use Rattle.std.specs.Prelude.{◌≡◌, ◌≤◌, List, [], ◌∷◌, ◌++◌, map, sum_by}
use Rattle.ic_arena.specs.declared.word.Word.{Word}
use Rattle.ic_arena.specs.Piece.{Piece}
use Rattle.ic_meaning.specs.Nets.{holds}
use Rattle.ic_readback.specs.declared.loose.Loose.{Loose}
use Rattle.ic_readback.specs.declared.reader.Reader.{Reader}
use Rattle.ic_readback.specs.inner.Expanding.{State, state, Steps}
use Rattle.ic_readback.specs.inner.Writing.{Part, part, part_of, Gathered}

-- a reader with these words before it
abbrev pub at_words : List Word → Reader → State
at_words ws r = state r.tokens.items ws r.places.pieces

-- A reader with nothing on its stack has put these words together.
pub record HasRead (ws : List Word) (old new : Reader) : Type 0 where
  pub steps : Steps old.places.arities (at_words ws old) (at_words [] new)
  pub empty : new.stack.items ≡ []
  pub arities : new.places.arities ≡ old.places.arities

-- A reader has made a term for a place of the tokens that it had written.
pub record Keeps (place : Word) (old new : Reader) (before after : List Loose) : Type 0 where
  pub added : map part_of after ≡ map part_of before ++ part place old.tokens.items ∷ []
  pub tokens : new.tokens.items ≡ []
  pub places : new.places ≡ old.places
  pub stack : new.stack.items ≡ old.stack.items
  pub equations : new.equations ≡ old.equations

-- A reader with nothing on its stack has read some of what was left, as terms by themselves.
pub record Gathers (old new : Reader) (before after : List Loose) : Type 0 where
  pub parts : List Part
  pub added : map part_of after ≡ map part_of before ++ parts
  pub gathered : Gathered old.places.arities parts old.places.pieces new.places.pieces
  pub tokens : new.tokens.items ≡ []
  pub empty : new.stack.items ≡ []
  pub arities : new.places.arities ≡ old.places.arities
  pub equations : new.equations ≡ old.equations

-- one piece at most says what is at a place
abbrev pub HoldOnce : List Piece → Type 0
HoldOnce ps = (w : Word) → sum_by (holds w) ps ≤ 1
