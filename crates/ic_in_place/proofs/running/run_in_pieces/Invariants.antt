use Rattle.std.proofs.Common.{◌≡◌, ◌+◌}
use Rattle.ic_machine.specs.Runs.{Ran}
use Rattle.ic_in_place.proofs.running.run_in_pieces.Given as goal

-- so many interactions are left
abbrev pub invariant-pieces : goal.invariant-pieces
invariant-pieces g l = record {
  ran : Ran l.program l.initial.machine l.machine;
  counted : l.machine.interactions + l.left ≡ l.initial.machine.interactions + l.steps;
}

abbrev pub decreases-pieces : goal.decreases-pieces
decreases-pieces g l = l.left
