use Rattle.std.proofs.Common.{◌≡◌, [], take}
use Rattle.std.specs.List.{filter_map}
use Rattle.ic_scripts.specs.Telling.{client_fault}
use Rattle.ic_scripts.proofs.ends.first_client.Given as goal

-- the clients before this one finished
abbrev pub invariant-loop-run : goal.invariant-loop-run
invariant-loop-run l = filter_map client_fault (take l.run-index l.runs) ≡ []
