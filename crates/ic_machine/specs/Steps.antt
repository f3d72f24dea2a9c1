-- Steps of a net in pieces. The order of pieces means nothing.
use Rattle.std.specs.Prelude.{◌≡◌, ℕ, ◌+◌, List, [], ◌∷◌, ◌++◌, Some, length, map, slice_get, sum_by, IsPermutation}
use Rattle.std.specs.List.{AllByRecursion}
use Rattle.ic_arena.specs.declared.word.Word.{Word}
use Rattle.ic_arena.specs.declared.word.TheConstants.{NAME}
use Rattle.ic_arena.specs.Word.{count, agent_word}
use Rattle.ic_arena.specs.Piece.{Piece, equated, idle, waits, agent_with, room}
use Rattle.ic_machine.specs.Plan.{Planned, Plans, number_of, constants, pieces_made}

-- no piece of the rest says what is at one of these places, and none of them is there twice
abbrev pub AreFresh : List Word → List Piece → Type 0
AreFresh [] rest = Unit {0}
AreFresh (w ∷ ws) rest = (sum_by (room w) rest ≡ 0) × (count w ws ≡ 0) × AreFresh ws rest

-- An equation read the other way round.
pub record Turns (xs ys : List Piece) : Type 0 where
  pub left : Word
  pub right : Word
  pub rest : List Piece
  pub given : IsPermutation xs (equated left right ∷ rest)
  pub result : IsPermutation ys (equated right left ∷ rest)

-- One side of an equation is a name for which nothing waits: the other side waits from now on. It stays the same equation.
pub record Puts (xs ys : List Piece) : Type 0 where
  pub named : Word
  pub other : Word
  pub rest : List Piece
  pub given : IsPermutation xs (equated named other ∷ idle named ∷ rest)
  pub result : IsPermutation ys (waits named other ∷ rest)

-- One side of an equation is a name for which a word waits: the two meet, and the name is gone (indirection).
pub record Meets (xs ys : List Piece) : Type 0 where
  pub named : Word
  pub other : Word
  pub waiting : Word
  pub rest : List Piece
  pub given : IsPermutation xs (equated named other ∷ waits named waiting ∷ rest)
  pub result : IsPermutation ys (equated waiting other ∷ rest)

-- A name waits for another name for which a word waits: the first waits for this word from now on, and the other is gone
-- (indirection).
pub record Joins (xs ys : List Piece) : Type 0 where
  pub named : Word
  pub between : Word
  pub waiting : Word
  pub rest : List Piece
  pub given : IsPermutation xs (waits named between ∷ waits between waiting ∷ rest)
  pub result : IsPermutation ys (waits named waiting ∷ rest)

-- Two agents whose symbols have a plan: both are gone, and what the plan makes of their arguments is there (interaction).
pub record Fires (p : Plans) (fired : ℕ) (xs ys : List Piece) : Type 0 where
  pub left : ℕ
  pub right : ℕ
  pub left_place : ℕ
  pub right_place : ℕ
  pub left_args : List Word
  pub right_args : List Word
  pub plan : Planned
  pub names : List Word
  pub made : List Word
  pub rest : List Piece
  pub number : number_of p left right ≡ Some fired
  pub has_plan : slice_get p.plans fired ≡ Some plan
  pub left_arity : slice_get p.arities left ≡ Some (length left_args)
  pub right_arity : slice_get p.arities right ≡ Some (length right_args)
  pub given : IsPermutation xs
      (equated (agent_word left left_place) (agent_word right right_place)
      ∷ (agent_with (agent_word left left_place) left_args
      ++ (agent_with (agent_word right right_place) right_args ++ rest)))
  pub names_count : length names ≡ plan.names
  pub made_count : length made ≡ length plan.made
  pub name_tags : AllByRecursion (λ w. w.tag ≡ NAME) names
  pub made_tags : map (λ w. w.tag) made ≡ map (λ m. m.symbol + 1) plan.made
  pub fresh : AreFresh (names ++ made) rest
  pub result : IsPermutation ys
      (pieces_made plan
      (constants (length p.arities) ++ (left_args ++ (right_args ++ (names ++ made)))) names made
      ++ rest)

-- One step: it fires a pair by the plan with this number, or none.
pub data Step (p : Plans) : List ℕ → List Piece → List Piece → Type 0 where
  turns : (xs ys : List Piece) → Turns xs ys → Step p [] xs ys
  puts : (xs ys : List Piece) → Puts xs ys → Step p [] xs ys
  meets : (xs ys : List Piece) → Meets xs ys → Step p [] xs ys
  joins : (xs ys : List Piece) → Joins xs ys → Step p [] xs ys
  fires : (i : ℕ) (xs ys : List Piece) → Fires p i xs ys → Step p (i ∷ []) xs ys

-- Steps one after another, which fire pairs by these plans, in this order.
pub data Steps (p : Plans) : List ℕ → List Piece → List Piece → Type 0 where
  no_step : (xs ys : List Piece) → IsPermutation xs ys → Steps p [] xs ys
  one_more : (is js : List ℕ) (xs ys zs : List Piece) → Steps p is xs ys → Step p js ys zs
      → Steps p (is ++ js) xs zs
