-- What places hold, from which pieces are taken.
use Rattle.std.specs.Prelude.{◌≡◌, ℕ, ◌+◌, ◌≤◌, List, ◌∷◌, ◌++◌, Some, length, reverse, slice_get, IsPermutation}
use Rattle.ic_arena.specs.declared.word.Word.{Word}
use Rattle.ic_arena.specs.declared.word.TheConstants.{NAME}
use Rattle.ic_arena.specs.Piece.{Piece, equated, idle, waits, agent_of}

-- The arities of the symbols, and what each place holds; how many names there are, and places for agents of each symbol, the
-- free ones too.
pub record Held : Type 0 where
  pub arities : List ℕ
  pub pieces : List Piece
  pub names : ℕ
  pub agents : List ℕ

-- there are as many names, and as many places for agents of each symbol
pub record HasAsMany (old new : Held) : Type 0 where
  pub names : new.names ≡ old.names
  pub agents : new.agents ≡ old.agents

-- the tag is that of an agent with so many arguments, at least one, as is the arity of its symbol
pub record IsTagOf (arities : List ℕ) (tag arguments : ℕ) : Type 0 where
  pub symbol : ℕ
  pub is : tag ≡ symbol + 1
  pub known : slice_get arities symbol ≡ Some arguments
  pub some : 1 ≤ arguments

-- A piece says what is at a name, or at an agent with as many arguments as its arity.
abbrev pub IsHeld : List ℕ → Piece → Type 0
IsHeld arities (equated l r) = ⊥
IsHeld arities (idle x) = x.tag ≡ NAME
IsHeld arities (waits x u) = x.tag ≡ NAME
IsHeld arities (agent_of a ws) = IsTagOf arities a.tag (length ws)

-- The arguments of an agent were taken out of its place, and put onto a stack, on which the first is on top.
pub record ArgumentsTaken (agent : Word) (old new : Held) (before after : List Word) : Type 0 where
  pub arguments : List Word
  pub taken : IsPermutation old.pieces (agent_of agent arguments ∷ new.pieces)
  pub pushed : after ≡ before ++ reverse arguments
