use Rattle.std.proofs.Common.{◌≡◌}
use Rattle.ic_expand.specs.Names.{spare_numbers}
use Rattle.ic_expand.proofs.names.spare_of.Given as goal

-- those of the numbers so far
abbrev pub invariant-loop-number : goal.invariant-loop-number
invariant-loop-number l = l.spare.items ≡ spare_numbers l.shorts l.number
