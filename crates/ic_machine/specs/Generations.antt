-- Pairs that are taken one by one, whichever they are, and generations of them.
use Rattle.std.specs.Prelude.{◌≡◌, ℕ, ◌≤◌, List, [], ◌∷◌, ◌++◌, length, map, take, drop, IsPermutation}
use Rattle.ic_arena.specs.Word.{agent_word}
use Rattle.ic_arena.specs.Piece.{Piece}
use Rattle.ic_machine.specs.declared.equation.Equation.{Equation}
use Rattle.ic_machine.specs.declared.generation.Generation.{Generation}
use Rattle.ic_machine.specs.Plan.{Plans}
use Rattle.ic_machine.specs.Net.{Net, equated_of, IsStuck}
use Rattle.ic_machine.specs.Runs.{Ran}
use Rattle.ic_machine.specs.Steps.{Fires, Steps}

-- This very pair fires by the plan with this number.
pub record FiresPair (p : Plans) (e : Equation) (fired : ℕ) (xs ys : List Piece) : Type 0 where
  pub fires : Fires p fired xs ys
  pub left : e.left ≡ agent_word fires.left fires.left_place
  pub right : e.right ≡ agent_word fires.right fires.right_place

-- Pairs of a generation are taken one after another, until these are left. One that has a plan fires, by the plan with the next
-- number. One that is stuck joins the other pieces. Steps that fire nothing are taken by the other pieces alone.
pub data Takes (p : Plans) : (now left : List Equation) → List ℕ → (xs ys : List Piece) → Type 0 where
  ended : (now left : List Equation) (xs ys : List Piece) → IsPermutation now left → Steps p [] xs ys
      → Takes p now left [] xs ys
  fires : (e : Equation) (now es left : List Equation) (i : ℕ) (is : List ℕ) (xs before after ys : List Piece)
      → IsPermutation now (e ∷ es) → Steps p [] xs before → FiresPair p e i (equated_of e ∷ before) after
      → Takes p es left is after ys → Takes p now left (i ∷ is) xs ys
  stays : (e : Equation) (now es left : List Equation) (is : List ℕ) (xs before ys : List Piece) → IsPermutation now (e ∷ es)
      → Steps p [] xs before → IsStuck p e → Takes p es left is (equated_of e ∷ before) ys → Takes p now left is xs ys

-- the pieces of a net without its pending pairs, but with those that are of a later generation
abbrev pub beside : List Equation → Net → List Piece
beside later n = map equated_of later ++ (map equated_of n.aside ++ n.places)

-- The first pending pair is taken, and those that come of it stand after all others. All of these may be of the present
-- generation or of a later one.
pub record TakesFirst (p : Plans) (old new : Net) : Type 0 where
  pub pair : Equation
  pub rest : List Equation
  pub first : old.pending ≡ pair ∷ rest
  pub more : List Equation
  pub pending : new.pending ≡ rest ++ more
  pub ran : Ran p old new
  pub takes : (now later : List Equation) → IsPermutation rest (now ++ later)
      → Takes p (pair ∷ now) now ran.fired (beside later old) (beside (later ++ more) new)

-- the pairs of a generation that are still to be taken, of those that are pending
abbrev pub present : Generation → List Equation → List Equation
present g es = take g.end es

-- the others
abbrev pub later : Generation → List Equation → List Equation
later g es = drop g.end es

-- The generation is some of those that are pending.
abbrev pub IsWithin : Generation → List Equation → Type 0
IsWithin g es = g.end ≤ length es

-- Pairs of a generation are taken, each once, until the second generation is left of it. What comes of them is of the next one.
pub record Advances (p : Plans) (g h : Generation) (old new : Net) : Type 0 where
  pub ran : Ran p old new
  pub takes : Takes p (present g old.pending) (present h new.pending) ran.fired
      (beside (later g old.pending) old) (beside (later h new.pending) new)
