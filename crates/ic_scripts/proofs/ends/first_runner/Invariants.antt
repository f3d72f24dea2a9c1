use Rattle.std.proofs.Common.{◌≡◌, [], take}
use Rattle.std.specs.List.{filter_map}
use Rattle.ic_scripts.specs.Telling.{runner_fault}
use Rattle.ic_scripts.proofs.ends.first_runner.Given as goal

-- the runners before this one ended by no fault
abbrev pub invariant-loop-end : goal.invariant-loop-end
invariant-loop-end l = filter_map runner_fault (take l.end-index l.ends) ≡ []
