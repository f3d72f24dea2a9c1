use Rattle.std.proofs.Common.{◌≡◌, List, [], ◌∷◌, ◌++◌, length}
use Rattle.ic_arena.specs.Piece.{Piece, equated}
use Rattle.ic_arena.specs.Tables.{names_pieces}
use Rattle.ic_machine.specs.Plan.{Plans}
use Rattle.ic_machine.specs.Net.{equated_of, IsPair}
use Rattle.ic_machine.specs.Steps.{Steps}
use Rattle.ic_machine.specs.inner.Linking.{AreNamed}
use Rattle.ic_machine.proofs.linking.link.Given as goal

abbrev pub invariant-follow : goal.invariant-follow
invariant-follow g l = record {
  steps : (p : Plans) (rest : List Piece) → Steps p []
      (equated_of l.fn.equation ∷ (names_pieces 0 l.initial.names.entries ++ rest))
      (equated l.left l.right ∷ (names_pieces 0 l.names.entries ++ rest));
  pair : IsPair l.fn.equation → (l.left ≡ l.fn.equation.left) × (l.right ≡ l.fn.equation.right);
  named : AreNamed l.left l.right l.names.entries;
  names : length l.names.entries ≡ length l.initial.names.entries;
  pending : l.pending.items ≡ l.initial.pending.items;
  len : length l.pending.items ≡ length l.initial.pending.items;
  capacity : l.pending.capacity ≡ l.initial.pending.capacity;
  memory : l.names.capacity ≡ l.initial.names.capacity;
}

abbrev pub decreases-follow : goal.decreases-follow
decreases-follow g l = length (names_pieces 0 l.names.entries)
