use Rattle.std.proofs.Common.{◌≡◌, ◌+◌, ◌^◌, ◌<◌, ◌≤◌, [], ◌++◌, drop, length, map, reverse}
use Rattle.std.specs.List.{AllByRecursion}
use Rattle.ic_arena.specs.declared.word.TheConstants.{IDLE}
use Rattle.ic_machine.specs.Moving.{end_word, KeepWorth, Spells}
use Rattle.ic_machine.specs.inner.Firing.{arities_of}
use Rattle.ic_machine.specs.inner.Moving.{side_in}
use Rattle.ic_machine.specs.inner.Unpacking.{AreKept, TablesGrow}
use Rattle.ic_machine.proofs.unpacking.put_words.Given as goal

-- what was made spells the words from here on
abbrev pub invariant-loop-i : goal.invariant-loop-i
invariant-loop-i l = record {
  spells : Spells (arities_of l.initial.tables.heaps.items) (side_in l.tables l.borders)
      (side_in l.initial.tables l.initial.borders) (reverse l.stack.items) (drop l.i l.words);
  worth : KeepWorth l.initial.borders l.borders (drop l.i l.words) [];
  kept : AreKept (arities_of l.initial.tables.heaps.items)
      (map end_word l.initial.borders.ends) (l.stack.items ++ map end_word l.borders.ends)
      (side_in l.initial.tables l.initial.borders).places (side_in l.tables l.borders).places;
  words : AllByRecursion (λ w. w.tag < IDLE) l.stack.items;
  len : length l.stack.items + l.i ≤ length l.words;
  few : length l.tables.names.entries < 2 ^ 32;
  arities : arities_of l.tables.heaps.items ≡ arities_of l.initial.tables.heaps.items;
  grow : TablesGrow l.initial.tables l.tables;
  pending : l.tables.pending ≡ l.initial.tables.pending;
  registers : l.tables.registers ≡ l.initial.tables.registers;
  spare : l.tables.spare ≡ l.initial.tables.spare;
}
