use Rattle.std.proofs.Common.{◌≡◌, ◌+◌, ◌++◌, map, drop}
use Rattle.ic_term.specs.Term.{tree}
use Rattle.ic_nets.specs.declared.port.Port.TheVariants.{Interface}
use Rattle.ic_nets.specs.inner.Hanging.{coming, hung_at}
use Rattle.ic_nets.proofs.sketch.put_interface.Given as goal

-- the later ones are on the stack
abbrev pub invariant-loop-i : goal.invariant-loop-i
invariant-loop-i l = coming l.stack.items ≡ hung_at Interface (l.i + 1) (map tree (drop l.i l.terms)) ++ coming l.fn.stack.items
