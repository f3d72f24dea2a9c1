-- For private functions: how words are put together to terms, step by step.
use Rattle.std.specs.Prelude.{◌≡◌, ℕ, ◌+◌, ◌-◌, List, [], ◌∷◌, ◌++◌, true, Some, length, slice_get, Contains, IsPermutation}
use Rattle.ic_arena.specs.declared.word.Word.{Word}
use Rattle.ic_arena.specs.declared.word.TheConstants.{NAME, GIVEN}
use Rattle.ic_arena.specs.Piece.{Piece, equated, idle, waits, agent_of}
use Rattle.ic_machine.specs.Separate.{is_constant_tag}
use Rattle.ic_meaning.specs.Nets.{IsAgentOf}
use Rattle.ic_readback.specs.declared.token.Token.{Token}
use Rattle.ic_readback.specs.declared.token.Token.TheVariants.{Name, Agent}

-- tokens that are written, the words that are still to be put together, and the pieces that are left
pub record State : Type 0 where
  pub tokens : List Token
  pub words : List Word
  pub pieces : List Piece

abbrev pub state : List Token → List Word → List Piece → State
state ts ws ps = record { tokens = ts; words = ws; pieces = ps }

-- A word is written as a name where it names no agent without arguments, and nothing is left at its place.
pub record IsName (arities : List ℕ) (ps : List Piece) (w : Word) : Type 0 where
  pub given : is_constant_tag arities w.tag ≡ true → w.tag ≡ GIVEN
  pub waits_not : w.tag ≡ NAME → (u : Word) → ¬ Contains ps (waits w u)
  pub agent_not : ¬ (w.tag ≡ NAME) → (vs : List Word) → ¬ Contains ps (agent_of w vs)

-- One word is put together: a name gives way to the word that waits for it, an agent is written before its arguments, and
-- what has nothing at its place is written by itself.
pub data Step (arities : List ℕ) : State → State → Type 0 where
  follow : (ts : List Token) (name word : Word) (ws : List Word) (ps qs : List Piece)
      → name.tag ≡ NAME → IsPermutation ps (waits name word ∷ qs)
      → Step arities (state ts (name ∷ ws) ps) (state ts (word ∷ ws) qs)
  opened : (ts : List Token) (agent : Word) (vs ws : List Word) (ps qs : List Piece)
      → IsAgentOf arities agent.tag (length vs) → IsPermutation ps (agent_of agent vs ∷ qs)
      → Step arities (state ts (agent ∷ ws) ps)
      (state (ts ++ Agent (agent.tag - 1) ∷ []) (vs ++ ws) qs)
  plain : (ts : List Token) (s : ℕ) (w : Word) (ws : List Word) (ps : List Piece)
      → w.tag ≡ s + 1 → slice_get arities s ≡ Some 0
      → Step arities (state ts (w ∷ ws) ps) (state (ts ++ Agent s ∷ []) ws ps)
  named : (ts : List Token) (w : Word) (ws : List Word) (ps : List Piece) → IsName arities ps w
      → Step arities (state ts (w ∷ ws) ps) (state (ts ++ Name w ∷ []) ws ps)

pub data Steps (arities : List ℕ) : State → State → Type 0 where
  no_step : (s : State) → Steps arities s s
  one_more : (s t u : State) → Step arities s t → Steps arities t u → Steps arities s u

-- What is left is put together, a piece after another, as so many equations of a name with a term.
pub data Left (arities : List ℕ) : ℕ → State → State → Type 0 where
  none : (s : State) → Left arities 0 s s
  circle : (k : ℕ) (s : State) (ts us : List Token) (name word : Word) (ps qs rs : List Piece)
      → Left arities k s (state ts [] ps) → name.tag ≡ NAME
      → IsPermutation ps (waits name word ∷ qs)
      → Steps arities (state (ts ++ Name name ∷ []) (word ∷ []) qs) (state us [] rs)
      → Left arities (k + 1) s (state us [] rs)
  alone : (k : ℕ) (s : State) (ts us : List Token) (agent : Word) (vs : List Word)
      (ps qs rs : List Piece)
      → Left arities k s (state ts [] ps) → IsAgentOf arities agent.tag (length vs)
      → IsPermutation ps (agent_of agent vs ∷ qs)
      → Steps arities (state (ts ++ Name agent ∷ Agent (agent.tag - 1) ∷ []) vs qs) (state us [] rs)
      → Left arities (k + 1) s (state us [] rs)

abbrev pub IsIdle : Piece → Type 0
IsIdle (equated l r) = ⊥
IsIdle (idle x) = Unit {0}
IsIdle (waits x u) = ⊥
IsIdle (agent_of a ws) = ⊥
