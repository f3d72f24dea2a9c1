use Rattle.std.proofs.Common.{◌≡◌, ◌*◌, ◌++◌, drop}
use Rattle.ic_plans.specs.inner.Given.{operand_links}
use Rattle.ic_plans.proofs.first.links_of_pairs.Given as goal

-- the links so far and those of the registers that are left
abbrev pub invariant-loop-i : goal.invariant-loop-i
invariant-loop-i l = l.links.items ++ operand_links (drop (2 * l.i) l.operands) ≡ operand_links l.operands
