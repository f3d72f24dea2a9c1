use Rattle.std.proofs.Common.{◌≡◌, drop, false}
use Rattle.std.specs.List.{AllByRecursion}
use Rattle.ic_batch.specs.Way.{goes_on}
use Rattle.ic_batch.proofs.running.place_from.Given as goal

-- none of the jobs so far goes on
abbrev pub invariant-loop-place : goal.invariant-loop-place
invariant-loop-place l = AllByRecursion (λ job. goes_on l.most job ≡ false) (drop l.place l.jobs) → AllByRecursion (λ job. goes_on l.most job ≡ false) (drop l.from l.jobs)
