use Rattle.std.proofs.Common.{◌≡◌, ◌+◌, ◌*◌, ◌^◌, ◌<◌, ◌≤◌, ◌++◌, length, sum_by, take}
use Rattle.std.specs.List.{AllByRecursion}
use Rattle.ic_arena.specs.Tables.{AreBlocks, names_pieces}
use Rattle.ic_machine.specs.inner.Firing.{heaps_pieces}
use Rattle.ic_machine.proofs.places.count_places.Given as goal

abbrev pub invariant-loop-heap : goal.invariant-loop-heap
invariant-loop-heap l = record {
  few : length (names_pieces 0 l.names.entries ++ heaps_pieces 0 (take l.heap-index l.heaps)) ≤ l.count;
  sound : AllByRecursion AreBlocks (take l.heap-index l.heaps);
  is : l.count ≡ length l.names.entries + sum_by (λ b. b.count) (take l.heap-index l.heaps);
  fits : l.count < (l.heap-index + 1) * 2 ^ 32;
}
