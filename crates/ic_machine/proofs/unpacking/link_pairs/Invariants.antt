use Rattle.std.proofs.Common.{◌≡◌, ◌+◌, ◌*◌, ◌≤◌, List, [], ◌++◌, drop, length, map}
use Rattle.ic_arena.specs.Piece.{Piece}
use Rattle.ic_arena.specs.Tables.{names_pieces}
use Rattle.ic_machine.specs.Net.{equated_of}
use Rattle.ic_machine.specs.Plan.{Plans}
use Rattle.ic_machine.specs.Steps.{Steps}
use Rattle.ic_machine.specs.inner.Linking.{Pushed}
use Rattle.ic_machine.specs.inner.Unpacking.{pairs_on, AreEntered}
use Rattle.ic_machine.proofs.unpacking.link_pairs.Given as goal

-- as in `link_all`: what is left to link, and what was linked
abbrev pub invariant-loop-place : goal.invariant-loop-place
invariant-loop-place l = record {
  steps : (p : Plans) (rest : List Piece) → Steps p []
      (map equated_of (pairs_on l.stack)
      ++ (names_pieces 0 l.initial.tables.names.entries ++ (map equated_of l.initial.tables.pending.items ++ rest)))
      (map equated_of (pairs_on (drop (2 * l.place) l.stack))
      ++ (names_pieces 0 l.tables.names.entries ++ (map equated_of l.tables.pending.items ++ rest)));
  entered : AreEntered (drop (2 * l.place) l.stack) l.tables.names.entries;
  pushed : Pushed l.initial.tables.pending.items l.tables.pending.items;
  len : length l.tables.pending.items ≤ length l.initial.tables.pending.items + l.place;
  capacity : l.tables.pending.capacity ≡ l.initial.tables.pending.capacity;
  names : length l.tables.names.entries ≡ length l.initial.tables.names.entries;
  heaps : l.tables.heaps ≡ l.initial.tables.heaps;
  registers : l.tables.registers ≡ l.initial.tables.registers;
  spare : l.tables.spare ≡ l.initial.tables.spare;
}
