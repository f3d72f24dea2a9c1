use Rattle.std.proofs.Common.{◌≡◌, ◌+◌, ◌≤◌, List, [], ◌++◌, map, drop, length}
use Rattle.ic_arena.specs.Piece.{Piece}
use Rattle.ic_arena.specs.Tables.{names_pieces}
use Rattle.ic_machine.specs.declared.equation.Equation.{Equation}
use Rattle.ic_machine.specs.Plan.{Plans, linked}
use Rattle.ic_machine.specs.Net.{equated_of}
use Rattle.ic_machine.specs.Steps.{Steps}
use Rattle.ic_machine.specs.inner.Linking.{AreLinks, Pushed}
use Rattle.ic_machine.proofs.Heads.{HeadSoFar}
use Rattle.ic_machine.proofs.linking.link_all.Given as goal

abbrev pub invariant-loop-each : goal.invariant-loop-each
invariant-loop-each g l = record {
  steps : (p : Plans) (rest : List Piece) → Steps p []
      (map (linked l.registers) l.links
      ++ (names_pieces 0 l.initial.names.entries ++ (map equated_of l.initial.pending.items ++ rest)))
      (map (linked l.registers) (drop l.each-index l.links)
      ++ (names_pieces 0 l.names.entries ++ (map equated_of l.pending.items ++ rest)));
  links : AreLinks (drop l.each-index l.links) l.registers l.names.entries;
  bare : (p : Plans) (rest : List Piece) (more : List Equation) → l.pending.items ≡ l.initial.pending.items ++ more → Steps p []
      (map (linked l.registers) l.links ++ (names_pieces 0 l.initial.names.entries ++ rest))
      (map (linked l.registers) (drop l.each-index l.links) ++ (names_pieces 0 l.names.entries ++ (map equated_of more ++ rest)));
  head : HeadSoFar l.links l.registers l.each-index l.initial.pending.items l.pending.items;
  pushed : Pushed l.initial.pending.items l.pending.items;
  len : length l.pending.items ≤ length l.initial.pending.items + l.each-index;
  capacity : l.pending.capacity ≡ l.initial.pending.capacity;
  memory : l.names.capacity ≡ l.initial.names.capacity;
  names : length l.names.entries ≡ length l.initial.names.entries;
}
