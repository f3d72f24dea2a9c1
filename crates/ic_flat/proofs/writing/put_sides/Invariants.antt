use Rattle.std.proofs.Common.{◌≡◌, ◌++◌, map, drop}
use Rattle.ic_term.specs.Term.{pair}
use Rattle.ic_flat.specs.Flat.{sides}
use Rattle.ic_flat.specs.inner.Stacks.{coming}
use Rattle.ic_flat.proofs.writing.put_sides.Given as goal

-- the sides of the later ones are on the stack
abbrev pub invariant-loop-i : goal.invariant-loop-i
invariant-loop-i l = coming l.stack.items ≡ sides (map pair (drop l.i l.equations)) ++ coming l.fn.stack.items
