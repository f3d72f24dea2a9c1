use Rattle.std.proofs.Common.{take}
use Rattle.ic_check.specs.inner.Tallies.{IsTally}
use Rattle.ic_check.proofs.names.tally.Given as goal

-- the names so far are counted
abbrev pub invariant-loop-name : goal.invariant-loop-name
invariant-loop-name l = record { counts : IsTally (take l.name-index l.names) l.counts }
