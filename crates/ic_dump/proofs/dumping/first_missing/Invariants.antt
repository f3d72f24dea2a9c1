use Rattle.std.proofs.Common.{◌≡◌, drop}
use Rattle.ic_dump.specs.Dumping.{first_missing}
use Rattle.ic_dump.proofs.dumping.first_missing.Given as goal

-- the first is among those left
abbrev pub invariant-loop-name : goal.invariant-loop-name
invariant-loop-name l = first_missing (drop l.name-index l.names) l.table ≡ first_missing l.names l.table
