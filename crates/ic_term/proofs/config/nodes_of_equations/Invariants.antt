use Rattle.std.proofs.Common.{◌≡◌, ◌+◌, ◌-◌, ◌^◌, ◌<◌, min, map, drop, sum_by}
use Rattle.ic_term.specs.Tree.{pair_nodes}
use Rattle.ic_term.specs.Term.{pair}
use Rattle.ic_term.proofs.config.nodes_of_equations.Given as goal

-- what is counted so far and the nodes of what is left are those of all
abbrev pub invariant-loop-equation : goal.invariant-loop-equation
invariant-loop-equation l =
    (min (l.count + sum_by pair_nodes (map pair (drop l.equation-index l.equations))) (2 ^ 64 - 1) ≡ min (sum_by pair_nodes (map pair l.equations)) (2 ^ 64 - 1)) × (l.count < 2 ^ 64)
