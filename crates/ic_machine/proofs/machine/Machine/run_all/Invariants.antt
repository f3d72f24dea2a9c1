use Rattle.std.proofs.Common.{◌≡◌, ◌+◌}
use Rattle.ic_machine.specs.Runs.{Ran}
use Rattle.ic_machine.proofs.machine.Machine.run_all.Given as goal

abbrev pub invariant-loop-left : goal.invariant-loop-left
invariant-loop-left g l = record {
  ran : Ran l.program l.initial.self l.self;
  counted : l.self.interactions + l.left ≡ l.initial.self.interactions + l.initial.left;
}

abbrev pub decreases-loop-left : goal.decreases-loop-left
decreases-loop-left g l = l.left
