use Rattle.std.proofs.Common.{◌≡◌, length}
use Rattle.std.specs.Vec.Iter.{into_iter_items, into_iter_len}
use Rattle.ic_batch.proofs.ReadLemmas.{AreSoFar}
use Rattle.ic_batch.proofs.reading.read_jobs.Given as goal

-- the jobs so far, and after them the commands that are left
abbrev pub invariant-loop-command : goal.invariant-loop-command
invariant-loop-command l =
    (into_iter_len l.command-iterator ≡ length (into_iter_items l.command-iterator)) × AreSoFar l.text l.jobs.items (into_iter_items l.command-iterator)
