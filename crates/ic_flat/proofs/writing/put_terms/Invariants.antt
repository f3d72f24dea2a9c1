use Rattle.std.proofs.Common.{◌≡◌, ◌++◌, map, drop}
use Rattle.ic_term.specs.Term.{tree}
use Rattle.ic_flat.specs.inner.Stacks.{coming}
use Rattle.ic_flat.proofs.writing.put_terms.Given as goal

-- the later ones are on the stack
abbrev pub invariant-loop-i : goal.invariant-loop-i
invariant-loop-i l = coming l.stack.items ≡ map tree (drop l.i l.terms) ++ coming l.fn.stack.items
