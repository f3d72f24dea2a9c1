use Rattle.std.proofs.Common.{◌≡◌, drop}
use Rattle.std.specs.List.{list_any}
use Rattle.ic_jobs.specs.Table.{is_named}
use Rattle.ic_dump.proofs.dumping.has_a_name.Given as goal

-- the answer is that of the names left
abbrev pub invariant-loop-name : goal.invariant-loop-name
invariant-loop-name l = list_any (λ n. is_named n l.job) (drop l.name-index l.names) ≡ list_any (λ n. is_named n l.job) l.names
