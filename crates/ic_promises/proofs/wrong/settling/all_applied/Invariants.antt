use Rattle.std.proofs.Common.{◌≡◌, map, take}
use Rattle.ic_term.specs.Term.{pair}
use Rattle.ic_promises.specs.SelfEquations.{applied}
use Rattle.ic_promises.proofs.wrong.settling.all_applied.Given as goal

-- the term is put for the name in those so far
abbrev pub invariant-loop-equation : goal.invariant-loop-equation
invariant-loop-equation l = map pair l.all.items ≡ map applied (map pair (take l.equation-index l.equations))
