-- A net in pieces: equations between words, and what each place holds.
use Rattle.std.specs.Prelude.{ℕ, List, [], ◌∷◌, if◌then◌else◌}
use Rattle.ic_arena.specs.declared.word.Word.{Word}
use Rattle.ic_arena.specs.Word.{word_eq, count}

pub data Piece : Type 0 where
  -- two words that are to be made equal
  equated : Word → Word → Piece
  -- a name for which nothing waits
  idle : Word → Piece
  -- a name, and the word that waits for its other occurrence
  waits : Word → Word → Piece
  -- an agent, and what its arguments begin with
  agent_of : Word → List Word → Piece

-- an agent with its arguments, which has no place where there are none
abbrev pub agent_with : Word → List Word → List Piece
agent_with w [] = []
agent_with w (v ∷ vs) = agent_of w (v ∷ vs) ∷ []

-- How often a place may be named, by this piece: twice if it is a name for which nothing waits, and once if it is a name
-- for which a word waits, or an agent.
abbrev pub room : Word → Piece → ℕ
room w (equated l r) = 0
room w (idle x) = if word_eq w x then 2 else 0
room w (waits x u) = if word_eq w x then 1 else 0
room w (agent_of a ws) = if word_eq w a then 1 else 0

-- how often a piece names this word, but for the place of which it says what it holds
abbrev pub uses : Word → Piece → ℕ
uses w (equated l r) = count w (l ∷ r ∷ [])
uses w (idle x) = 0
uses w (waits x u) = count w (u ∷ [])
uses w (agent_of a ws) = count w ws
