-- For private functions: what a machine that was taken apart has, and what was read of it.
use Rattle.std.specs.Prelude.{◌≡◌, ℕ, ◌+◌, List, [], ◌++◌, length}
use Rattle.std.specs.List.{flat_map, AllByRecursion}
use Rattle.ic_arena.specs.declared.word.Word.{Word}
use Rattle.ic_arena.specs.Piece.{Piece}
use Rattle.ic_machine.specs.declared.equation.Equation.{Equation}
use Rattle.ic_machine.specs.Held.{Held}
use Rattle.ic_machine.specs.Net.{Net}
use Rattle.ic_readback.specs.declared.token.Token.{Token}
use Rattle.ic_readback.specs.Reading.{sides_of}
use Rattle.ic_readback.specs.inner.Expanding.{state, Steps, IsIdle}
use Rattle.ic_readback.specs.inner.Reading.{HoldOnce}
use Rattle.ic_readback.specs.inner.Writing.{Part, Gathered, Mended, equation_tokens}

-- a machine has this interface, these equations and these places
pub record IsParted (m : Net) (interface : List Word) (pending aside : List Equation) (held : Held)
    : Type 0 where
  pub interface_is : interface ≡ m.interface
  pub pending_is : pending ≡ m.pending
  pub aside_is : aside ≡ m.aside
  pub arities : held.arities ≡ m.arities
  pub pieces : held.pieces ≡ m.places

-- What was read and written of the net of a machine: the words of its interface and the sides of its equations, and then what
-- was left, as terms that were put together.
pub record ReadsNet (arities : List ℕ) (m : Net) (ts : List Token) (equations : ℕ) : Type 0 where
  pub roots : List Token
  pub between : List Piece
  pub end : List Piece
  pub parts : List Part
  pub done : List Part
  pub steps : Steps arities
      (state [] (m.interface ++ (sides_of m.pending ++ sides_of m.aside)) m.places)
      (state roots [] between)
  pub gathered : Gathered arities parts between end
  pub mended : Mended parts [] done
  pub tokens : ts ≡ roots ++ flat_map equation_tokens done
  pub counted : equations ≡ (length m.pending + length m.aside) + length done
  pub idle : HoldOnce m.places → AllByRecursion IsIdle end
  pub fewer : HoldOnce m.places → HoldOnce between
