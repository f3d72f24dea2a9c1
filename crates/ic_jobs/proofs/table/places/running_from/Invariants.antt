use Rattle.std.proofs.Common.{◌≡◌, drop}
use Rattle.std.specs.List.{position_from}
use Rattle.ic_jobs.specs.State.{is_running}
use Rattle.ic_jobs.specs.Landing.{running_from}
use Rattle.ic_jobs.proofs.table.places.running_from.Given as goal

-- the search goes on from the jobs left
abbrev pub invariant-loop-place : goal.invariant-loop-place
invariant-loop-place l = position_from (λ j. is_running j.state) l.place (drop l.place l.jobs) ≡ running_from l.after l.jobs
