-- The net that a machine holds.
use Rattle.std.specs.Prelude.{◌≡◌, ℕ, zero, suc, ◌+◌, ◌^◌, ◌<◌, ◌≤◌, ◌==◌, ◌⊎◌, [], ◌∷◌, ◌++◌, Bool, true, false, List, length, map, None, Some, Contains, count_by, slice_index_or, sum}
use Rattle.ic_arena.specs.declared.word.Word.{Word}
use Rattle.ic_arena.specs.declared.word.TheConstants.{NAME}
use Rattle.ic_arena.specs.Piece.{Piece, equated, idle, waits, agent_of}
use Rattle.ic_machine.specs.declared.equation.Equation.{Equation}
use Rattle.ic_machine.specs.Plan.{Made, Planned, Plans, plan_of}

-- What a machine holds: the arities of the symbols; the words of the interface; the equations that are still to be looked
-- at, and those set aside; what each place holds; how many pairs it has fired; how many names there are, and places for agents
-- of each symbol, the free ones too; and how often each plan has fired.
pub record Net : Type 0 where
  pub arities : List ℕ
  pub interface : List Word
  pub pending : List Equation
  pub aside : List Equation
  pub places : List Piece
  pub interactions : ℕ
  pub names : ℕ
  pub agents : List ℕ
  pub counts : List ℕ

abbrev pub equated_of : Equation → Piece
equated_of e = equated e.left e.right

-- all pieces of a net
abbrev pub pieces : Net → List Piece
pieces n = map equated_of n.pending ++ (map equated_of n.aside ++ n.places)

-- neither side of an equation is a name of the net
abbrev pub IsPair : Equation → Type 0
IsPair e = (¬ (e.left.tag ≡ NAME)) × (¬ (e.right.tag ≡ NAME))

-- the same of an equation among pieces
abbrev pub IsPairPiece : Piece → Type 0
IsPairPiece (equated l r) = IsPair (record { left = l; right = r })
IsPairPiece (idle x) = Unit {0}
IsPairPiece (waits x u) = Unit {0}
IsPairPiece (agent_of a ws) = Unit {0}

-- No step of this equation is possible: neither side is a name, and their symbols, if both are known, have no plan.
pub record IsStuck (p : Plans) (e : Equation) : Type 0 where
  pub left : ¬ (e.left.tag ≡ NAME)
  pub right : ¬ (e.right.tag ≡ NAME)
  pub no_plan : (a b : ℕ) → e.left.tag ≡ a + 1 → e.right.tag ≡ b + 1 → a < length p.arities
      → b < length p.arities → plan_of p a b ≡ None

-- Both sides of an equation are agents, and their symbols have a plan.
pub record IsActive (p : Plans) (e : Equation) : Type 0 where
  pub left : ℕ
  pub right : ℕ
  pub left_tag : e.left.tag ≡ left + 1
  pub right_tag : e.right.tag ≡ right + 1
  pub left_known : left < length p.arities
  pub right_known : right < length p.arities
  pub plan : Planned
  pub is : plan_of p left right ≡ Some plan

-- the last of some equations can fire
pub record HasNext (p : Plans) (es : List Equation) : Type 0 where
  pub front : List Equation
  pub pair : Equation
  pub last : es ≡ front ++ pair ∷ []
  pub active : IsActive p pair

-- With the names that a plan makes there are 2^32 or more. Or there are 2^32 places or more for agents of a symbol of which
-- it makes one, with as many more as it makes agents.
abbrev pub IsFull : Planned → Net → Type 0
IsFull p n = (2 ^ 32 ≤ n.names + p.names)
    ⊎ ((m : Made) × Contains p.made m × (2 ^ 32 ≤ slice_index_or n.agents m.symbol 0 + length p.made))

-- Whether a piece says what is at a place of this kind: places of names are of kind 0, and those of agents of the kind of
-- their tag.
abbrev pub is_at : ℕ → Piece → Bool
is_at kind (equated l r) = false
is_at kind (idle x) = x.tag == kind
is_at kind (waits x u) = x.tag == kind
is_at kind (agent_of a ws) = a.tag == kind

-- how many places of this kind are in use
abbrev pub in_use : ℕ → List Piece → ℕ
in_use kind ps = count_by (is_at kind) ps

-- how many places of this kind there are, the free ones too
abbrev pub places_of : ℕ → Net → ℕ
places_of zero n = n.names
places_of (suc s) n = slice_index_or n.agents s 0

-- how many places there are in all, the free ones too
abbrev pub all_places : Net → ℕ
all_places n = n.names + sum n.agents

-- whether a piece is an equation
abbrev pub is_equation : Piece → Bool
is_equation (equated l r) = true
is_equation (idle x) = false
is_equation (waits x u) = false
is_equation (agent_of a ws) = false

-- how many equations are among pieces
abbrev pub equations_in : List Piece → ℕ
equations_in ps = count_by is_equation ps

-- how many equations are left: those that are pending, and those that were set aside
abbrev pub equations_left : Net → ℕ
equations_left n = length n.pending + length n.aside

-- how many places there are, and equations that are left
abbrev pub all_entries : Net → ℕ
all_entries n = all_places n + equations_left n

-- A word for which another one waits itself waits for none but itself.
abbrev pub ArePutThrough : List Piece → Type 0
ArePutThrough ps = (x y u : Word) → Contains ps (waits x y) → Contains ps (waits y u) → x ≡ y

-- what is at a place, and no equation
abbrev pub IsAtPlace : Piece → Type 0
IsAtPlace (equated l r) = ⊥
IsAtPlace (idle x) = Unit {0}
IsAtPlace (waits x u) = Unit {0}
IsAtPlace (agent_of a ws) = Unit {0}
