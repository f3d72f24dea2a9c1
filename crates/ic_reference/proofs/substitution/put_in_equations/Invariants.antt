use Rattle.std.proofs.Common.{◌≡◌, drop, map, take}
use Rattle.ic_term.specs.Term.{pair}
use Rattle.ic_reference.specs.inner.Placing.{placed_pairs, held_tree}
use Rattle.ic_reference.proofs.Placed.{put_after}
use Rattle.ic_reference.proofs.substitution.put_in_equations.Given as goal

-- what is done, and what is left with what is now held, are the whole
abbrev pub invariant-loop-equation : goal.invariant-loop-equation
invariant-loop-equation l =
    put_after (map pair (take l.equation-index l.equation-items)) (placed_pairs l.name (held_tree l.held) (map pair (drop l.equation-index l.equation-items)))
    ≡ placed_pairs l.name (held_tree l.fn.held) (map pair l.fn.equations)
