-- The configuration that a net in pieces is.
use Rattle.std.specs.Prelude.{◌≡◌, ℕ, ◌+◌, ◌-◌, ◌≤◌, List, [], ◌∷◌, Some, length, map, slice_get, sum_by, if◌then◌else◌}
use Rattle.std.specs.List.{flat_map, AllByRecursion}
use Rattle.ic_term.specs.Tree.{name, agent, trees_of, Pair}
use Rattle.ic_term.specs.Configuration.{Configuration, configured}
use Rattle.ic_arena.specs.declared.word.Word.{Word}
use Rattle.ic_arena.specs.declared.word.TheConstants.{NAME}
use Rattle.ic_arena.specs.Word.{word_eq}
use Rattle.ic_arena.specs.Piece.{Piece, equated, idle, waits, agent_of}
use Rattle.ic_machine.specs.Net.{IsStuck}
use Rattle.ic_machine.specs.Plan.{Plans}
use Rattle.ic_machine.specs.Separate.{IsSeparate}
use Rattle.ic_meaning.specs.Words.{Numbers, term}

-- What a piece says, as equations: a place is equal to what is there.
abbrev pub equations_of : Numbers → Piece → List Pair
equations_of n (equated l r) = record { left = term n l; right = term n r } ∷ []
equations_of n (idle x) = []
equations_of n (waits x u) = record { left = name (n.of_place x); right = term n u } ∷ []
equations_of n (agent_of a ws) = record {
  left = name (n.of_place a);
  right = agent (a.tag - 1) (trees_of (map (term n) ws));
} ∷ []

-- the configuration of the words of an interface, and of pieces
abbrev pub net_of : Numbers → List Word → List Piece → Configuration
net_of n interface ps = configured (map (term n) interface) (flat_map (equations_of n) ps)

-- the tag of an agent, for a symbol of this arity
pub record IsAgentOf (arities : List ℕ) (tag arity : ℕ) : Type 0 where
  pub symbol : ℕ
  pub is : tag ≡ symbol + 1
  pub known : slice_get arities symbol ≡ Some arity
  pub some : 1 ≤ arity

-- A piece says what is at a name, or at an agent with as many arguments as its arity.
abbrev pub IsPiece : List ℕ → Piece → Type 0
IsPiece arities (equated l r) = Unit {0}
IsPiece arities (idle x) = x.tag ≡ NAME
IsPiece arities (waits x u) = x.tag ≡ NAME
IsPiece arities (agent_of a ws) = IsAgentOf arities a.tag (length ws)

abbrev pub ArePieces : List ℕ → List Piece → Type 0
ArePieces arities ps = AllByRecursion (IsPiece arities) ps

-- how often a piece says what is at a place
abbrev pub holds : Word → Piece → ℕ
holds w (equated l r) = 0
holds w (idle x) = if word_eq w x then 1 else 0
holds w (waits x u) = if word_eq w x then 1 else 0
holds w (agent_of a ws) = if word_eq w a then 1 else 0

-- What the pieces of a net keep, beside the words of its interface: each says what is at a place of its kind, no place is
-- named too often, and one piece at most says what is there.
pub record AreNetPieces (arities : List ℕ) (interface : List Word) (ps : List Piece) : Type 0 where
  pub each : ArePieces arities ps
  pub separate : IsSeparate arities interface ps
  pub once : (w : Word) → sum_by (holds w) ps ≤ 1

-- an equation among pieces of which no step is possible
abbrev pub IsStuckPiece : Plans → Piece → Type 0
IsStuckPiece p (equated l r) = IsStuck p (record { left = l; right = r })
IsStuckPiece p (idle x) = Unit {0}
IsStuckPiece p (waits x u) = Unit {0}
IsStuckPiece p (agent_of a ws) = Unit {0}
