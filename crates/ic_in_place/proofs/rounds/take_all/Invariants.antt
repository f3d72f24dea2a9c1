use Rattle.std.proofs.Common.{◌-◌, ◌<◌, ◌≤◌}
use Rattle.ic_machine.specs.Generations.{Advances, IsWithin}
use Rattle.ic_in_place.proofs.rounds.take_all.Given as goal

abbrev pub invariant-loop-looks : goal.invariant-loop-looks
invariant-loop-looks g l = record {
  advances : Advances l.program l.initial.generation l.generation l.initial.machine l.machine;
  within : IsWithin l.generation l.machine.pending;
  looks : l.machine.interactions ≤ l.looks.next;
  left : 4611686018427387904 ≤ l.looks.next → 0 < l.generation.end;
}

abbrev pub decreases-loop-looks : goal.decreases-loop-looks
decreases-loop-looks g l = 4611686018427387904 - l.looks.next
