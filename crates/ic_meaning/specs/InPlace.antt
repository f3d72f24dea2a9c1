-- Rounds that a machine makes in place.
use Rattle.std.specs.Prelude.{◌≡◌, ℕ, List, [], ◌∷◌, ◌++◌, length}
use Rattle.std.specs.List.{AllByRecursion}
use Rattle.ic_arena.specs.Piece.{Piece}
use Rattle.ic_machine.specs.declared.generation.Generation.{Generation}
use Rattle.ic_machine.specs.Generations.{Advances}
use Rattle.ic_machine.specs.Net.{Net, IsAtPlace}
use Rattle.ic_machine.specs.Plan.{Plans}
use Rattle.ic_machine.specs.Steps.{Steps}

-- How far rounds are: the plans that fired in each round that is over, and in the present one, what is left of its generation,
-- and the net. The first generation is so many of the pairs that are pending first; each later one is all that is pending as the
-- one before it is over. A generation is taken in one go or in several, and names are put through meanwhile.
pub data AreRounds (p : Plans) (first : Net) (pairs : ℕ) : List (List ℕ) → List ℕ → Generation → Net → Type 0 where
  begun : AreRounds p first pairs [] [] (record { end = pairs }) first
  goes_on : (over : List (List ℕ)) (now : List ℕ) (g h : Generation) (old new : Net) → AreRounds p first pairs over now g old
      → (a : Advances p g h old new) → AreRounds p first pairs over (now ++ a.ran.fired) h new
  put_through : (over : List (List ℕ)) (now : List ℕ) (g : Generation) (old new : Net) → AreRounds p first pairs over now g old
      → new ≡ record old { places = new.places }
      → ((rest : List Piece) → Steps p [] (old.places ++ rest) (new.places ++ rest)) → AreRounds p first pairs over now g new
  next_round : (over : List (List ℕ)) (now : List ℕ) (g : Generation) (n : Net) → AreRounds p first pairs over now g n
      → g.end ≡ 0 → AllByRecursion IsAtPlace n.places
      → AreRounds p first pairs (over ++ now ∷ []) [] (record { end = length n.pending }) n
