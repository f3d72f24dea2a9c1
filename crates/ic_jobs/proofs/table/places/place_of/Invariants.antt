use Rattle.std.proofs.Common.{◌≡◌, drop}
use Rattle.std.specs.List.{position_from}
use Rattle.ic_jobs.specs.Table.{is_named}
use Rattle.ic_jobs.proofs.table.places.place_of.Given as goal

-- the search goes on from the jobs left
abbrev pub invariant-loop-place : goal.invariant-loop-place
invariant-loop-place l = position_from (is_named l.name) l.place (drop l.place l.jobs) ≡ position_from (is_named l.name) 0 l.jobs
