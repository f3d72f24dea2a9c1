use Rattle.std.proofs.Common.{◌≡◌, ℕ, ◌<◌, Some}
use Rattle.std.specs.Prelude.{slice_get}
use Rattle.ic_attend.specs.declared.attended.ClientRun.{ClientRun}
use Rattle.ic_attend.specs.Clients.{FailureStandsLast}
use Rattle.ic_attend.proofs.comparing.failures_stand_last.Given as goal

abbrev pub invariant-loop-who : goal.invariant-loop-who
invariant-loop-who l =
    (k : ℕ) (run : ClientRun) → k < l.who → slice_get l.runs k ≡ Some run → FailureStandsLast l.entries k run
