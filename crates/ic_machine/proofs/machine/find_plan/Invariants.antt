use Rattle.std.proofs.Common.{◌≡◌, length}
use Rattle.std.specs.List.{AllByRecursion}
use Rattle.ic_machine.specs.Net.{IsPair}
use Rattle.ic_machine.specs.inner.Pairs.{Passed}
use Rattle.ic_machine.proofs.machine.find_plan.Given as goal

abbrev pub invariant-loop-pair : goal.invariant-loop-pair
invariant-loop-pair l = record {
  pairs : AllByRecursion IsPair l.pending.items;
  passed : Passed l.program l.initial.pending.items l.initial.aside.items l.pending.items l.aside.items;
  memory : l.pending.capacity ≡ l.initial.pending.capacity;
}

abbrev pub decreases-loop-pair : goal.decreases-loop-pair
decreases-loop-pair l = length l.pending.items
