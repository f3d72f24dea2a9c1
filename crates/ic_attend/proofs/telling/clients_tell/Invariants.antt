use Rattle.std.proofs.Common.{ℕ, ◌<◌}
use Rattle.std.specs.Prelude.{IfSome, slice_index_or}
use Rattle.ic_attend.specs.declared.attended.ClientRun.{ClientRun}
use Rattle.ic_attend.specs.Ends.{CommandTells}
use Rattle.ic_attend.proofs.telling.clients_tell.Given as goal

abbrev pub invariant-loop-run : goal.invariant-loop-run
invariant-loop-run g l = (k : ℕ) (d : ClientRun) → k < l.run-index → IfSome (slice_index_or l.runs k d).end (CommandTells l.book)
