use Rattle.std.proofs.Common.{take}
use Rattle.std.specs.List.{AllByRecursion}
use Rattle.ic_machine.specs.Net.{IsStuck}
use Rattle.ic_machine.proofs.machine.Machine.has_active.Given as goal

abbrev pub invariant-loop-pair : goal.invariant-loop-pair
invariant-loop-pair l = record {
  stuck : AllByRecursion (IsStuck l.program) (take l.pair-index l.self.pending);
}
