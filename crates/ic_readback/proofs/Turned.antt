-- Lemmas: a net whose equations that were set aside stand in the other order.
use Rattle.std.proofs.Common.{ℕ, List, ◌++◌, map, reverse, arith}
use Rattle.std.specs.Prelude.{IsPermutation}
use Rattle.std.specs.List.{flat_map}
use Rattle.std.proofs.lemmas.List.Sorted.{IsPermutation-append_left, IsPermutation-append_right, IsPermutation-map, IsPermutation-reverse, sum_by-IsPermutation}
use Rattle.ic_arena.specs.declared.word.Word.{Word}
use Rattle.ic_arena.specs.Piece.{room, uses}
use Rattle.ic_machine.specs.Net.{Net, equated_of, pieces}
use Rattle.ic_round.specs.Naming.{HasNames}
use Rattle.ic_reaching.specs.OneNet.{OneNet}
use Rattle.ic_meaning.specs.Words.{Numbers}
use Rattle.ic_meaning.specs.Nets.{equations_of, holds, net_of, AreNetPieces, IsPiece}
use Rattle.ic_meaning.specs.lemmas.Orders.{flat_order}
use Rattle.ic_readback.specs.Reading.{AreGiven}
use Rattle.ic_readback.specs.lemmas.Given.{NetLaws}
use Rattle.ic_readback.specs.lemmas.Orders.{all_order}
use Rattle.ic_readback.specs.lemmas.RowNets.{to_configured}

abbrev pub turned : Net → Net
turned m = record m { aside = reverse m.aside }

pub moved : (m : Net) → IsPermutation (pieces m) (pieces (turned m))
moved m =
    IsPermutation-append_right (map equated_of m.pending) (map equated_of m.aside ++ m.places) (map equated_of (reverse m.aside) ++ m.places)
    (IsPermutation-append_left m.places (map equated_of m.aside) (map equated_of (reverse m.aside))
    (IsPermutation-map equated_of m.aside (reverse m.aside) (IsPermutation-reverse m.aside)))

pub are_turned : (arities : List ℕ) (interface : List Word) (m : Net) → AreNetPieces arities interface (pieces m) → AreNetPieces arities interface (pieces (turned m))
are_turned arities interface m are = record {
  each = all_order (IsPiece arities) (pieces m) (pieces (turned m)) (moved m) are.each;
  separate = record {
    each = λ w tag. omega (
      arith,
      are.separate.each w tag,
      sum_by-IsPermutation (uses w) (pieces m) (pieces (turned m)) (moved m),
      sum_by-IsPermutation (room w) (pieces m) (pieces (turned m)) (moved m),
    );
  };
  once = λ w. omega (arith, are.once w, sum_by-IsPermutation (holds w) (pieces m) (pieces (turned m)) (moved m));
}

pub given_turned : (given : List ℕ) (interface : List Word) (m : Net) → AreGiven given interface (pieces m) → AreGiven given interface (pieces (turned m))
given_turned given interface m are = λ w tag used. are w tag (omega (arith, used, sum_by-IsPermutation (uses w) (pieces m) (pieces (turned m)) (moved m)))

pub net_turned : NetLaws → (n : Numbers) (interface : List Word) (m : Net) → HasNames (net_of n interface (pieces m))
    → OneNet (net_of n interface (pieces m)) (net_of n interface (pieces (turned m)))
net_turned laws n interface m has =
    let es = flat_map (equations_of n) (pieces (turned m)) in
    to_configured laws (net_of n interface (pieces m)) (record (net_of n interface (pieces m)) { equations = es })
    (laws.order (net_of n interface (pieces m)) es has (flat_order (equations_of n) (pieces m) (pieces (turned m)) (moved m)))
