use Rattle.std.proofs.Common.{◌≡◌, ◌+◌}
use Rattle.ic_machine.specs.Generations.{Advances, IsWithin}
use Rattle.ic_machine.proofs.machine.Machine.run_generation.Given as goal

abbrev pub invariant-loop-generation : goal.invariant-loop-generation
invariant-loop-generation l = record {
  advances : Advances l.program l.initial.generation l.generation l.initial.self l.self;
  within : IsWithin l.generation l.self.pending;
  counted : l.self.interactions + l.left ≡ l.initial.self.interactions + l.steps;
}

abbrev pub decreases-loop-generation : goal.decreases-loop-generation
decreases-loop-generation l = l.generation.end
