use Rattle.std.proofs.Common.{◌≡◌, map, take}
use Rattle.ic_term.specs.Term.{pair}
use Rattle.ic_term.proofs.config.copy_equations.Given as goal

-- those so far are copied
abbrev pub invariant-loop-equation : goal.invariant-loop-equation
invariant-loop-equation l = map pair l.copies.items ≡ map pair (take l.equation-index l.equations)
