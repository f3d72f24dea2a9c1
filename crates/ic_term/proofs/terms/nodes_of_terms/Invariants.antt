use Rattle.std.proofs.Common.{◌≡◌, ◌+◌, ◌-◌, ◌^◌, ◌<◌, min, map, drop, sum_by}
use Rattle.ic_term.specs.Tree.{nodes}
use Rattle.ic_term.specs.Term.{tree}
use Rattle.ic_term.proofs.terms.nodes_of_terms.Given as goal

-- what is counted so far and the nodes of what is left are those of all
abbrev pub invariant-loop-term : goal.invariant-loop-term
invariant-loop-term l =
    (min (l.count + sum_by nodes (map tree (drop l.term-index l.terms))) (2 ^ 64 - 1) ≡ min (sum_by nodes (map tree l.terms)) (2 ^ 64 - 1)) × (l.count < 2 ^ 64)
