use Rattle.std.proofs.Common.{◌≡◌, ◌≤◌, ℕ, List, [], ◌++◌, length}
use Rattle.ic_arena.specs.Piece.{Piece}
use Rattle.ic_arena.specs.Tables.{names_pieces}
use Rattle.ic_machine.specs.Plan.{Plans}
use Rattle.ic_machine.specs.Steps.{Steps}
use Rattle.ic_machine.specs.inner.Sweeping.{IsThrough, IsRoomy}
use Rattle.ic_machine.proofs.sweeping.put_through.Given as goal

abbrev pub invariant-join : goal.invariant-join
invariant-join l = record {
  steps : (p : Plans) (rest : List Piece) → Steps p [] (names_pieces 0 l.initial.names.entries ++ rest) (names_pieces 0 l.names.entries ++ rest);
  room : IsRoomy l.names.entries;
  others : (i : ℕ) → IsThrough l.initial.names.entries i → IsThrough l.names.entries i;
  fewer : length (names_pieces 0 l.names.entries) ≤ length (names_pieces 0 l.initial.names.entries);
  names : length l.names.entries ≡ length l.initial.names.entries;
  memory : l.names.capacity ≡ l.initial.names.capacity;
}

abbrev pub decreases-join : goal.decreases-join
decreases-join l = length (names_pieces 0 l.names.entries)
