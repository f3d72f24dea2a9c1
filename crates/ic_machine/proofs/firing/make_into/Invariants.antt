use Rattle.std.proofs.Common.{◌≡◌, ◌+◌, ◌-◌, ◌<◌, ℕ, length, map, max, take}
use Rattle.std.specs.List.{AllByRecursion}
use Rattle.ic_arena.specs.declared.word.TheConstants.{IDLE}
use Rattle.ic_arena.specs.Tables.{blocks_pieces}
use Rattle.ic_machine.specs.Plan.{made_of}
use Rattle.ic_machine.specs.inner.Firing.{heaps_pieces, arities_of, table, HasRoom, IsGrown, Makes}
use Rattle.ic_machine.proofs.firing.make_into.Given as goal

abbrev pub invariant-loop-make : goal.invariant-loop-make
invariant-loop-make l = record {
  next : l.next ≡ l.filled + l.make-index;
  made : Makes (map made_of (take l.make-index l.makes))
      (heaps_pieces 0 l.initial.heaps.items) (heaps_pieces 0 l.heaps.items)
      (take l.filled l.initial.registers) (take l.next l.registers);
  words : AllByRecursion (λ w. w.tag < IDLE) (take l.next l.registers);
  arities : arities_of l.heaps.items ≡ arities_of l.initial.heaps.items;
  room : AllByRecursion (HasRoom l.heaps.items (length l.makes - l.make-index)) (map made_of l.makes);
  sizes : (s : ℕ) → IsGrown l.make-index (table l.initial.heaps.items s) (table l.heaps.items s);
  places : (s : ℕ) → (table l.heaps.items s).count
      ≡ max (table l.initial.heaps.items s).count (length (blocks_pieces s (table l.heaps.items s)));
  len : length l.registers ≡ length l.initial.registers;
}
