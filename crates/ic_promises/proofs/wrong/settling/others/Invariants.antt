use Rattle.std.proofs.Common.{◌≡◌, map, filter, not, take}
use Rattle.ic_term.specs.Term.{pair}
use Rattle.ic_promises.specs.SelfEquations.{is_self_equation}
use Rattle.ic_promises.proofs.wrong.settling.others.Given as goal

-- those so far are kept that are no self-equations
abbrev pub invariant-loop-equation : goal.invariant-loop-equation
invariant-loop-equation l =
    map pair l.kept.items ≡ filter (λ p. not (is_self_equation p)) (map pair (take l.equation-index l.equations))
