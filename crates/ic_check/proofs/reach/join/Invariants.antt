use Rattle.std.proofs.Common.{drop}
use Rattle.ic_check.proofs.Growth.{IsJoined}
use Rattle.ic_check.proofs.reach.join.Given as goal

-- those in front of these are joined
abbrev pub invariant-loop-symbol : goal.invariant-loop-symbol
invariant-loop-symbol l = record { joined : IsJoined l.fn.seen.items l.symbols l.seen.items (drop l.symbol-index l.symbols) }
