use Rattle.std.proofs.Common.{length, map, take}
use Rattle.std.specs.List.{AllByRecursion}
use Rattle.ic_machine.specs.Plan.{made_of}
use Rattle.ic_machine.specs.inner.Firing.{AreSame, HasRoom}
use Rattle.ic_machine.proofs.firing.reserve_blocks.Given as goal

abbrev pub invariant-loop-make : goal.invariant-loop-make
invariant-loop-make l = record {
  same : AreSame l.initial.heaps.items l.heaps.items;
  room : AllByRecursion (HasRoom l.heaps.items (length l.makes)) (map made_of (take l.make-index l.makes));
}
