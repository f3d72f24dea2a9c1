use Rattle.std.proofs.Common.{◌≡◌, ◌++◌, map, vec_len}
use Rattle.ic_term.specs.Term.{pair}
use Rattle.ic_flat.specs.Flat.{pairs_of}
use Rattle.ic_flat.specs.inner.Stacks.{upright}
use Rattle.ic_flat.proofs.reading.take_equations.Given as goal

-- the equations so far and those of what is left are those of the whole
abbrev pub invariant-loop-left : goal.invariant-loop-left
invariant-loop-left l = map pair l.equations.items ++ pairs_of (upright l.stack.items) ≡ pairs_of (upright l.fn.stack.items)

abbrev pub decreases-loop-left : goal.decreases-loop-left
decreases-loop-left l = vec_len l.stack
