use Rattle.std.proofs.Common.{◌≡◌, ◌++◌, map, drop, length}
use Rattle.ic_term.specs.Term.{pair}
use Rattle.ic_nets.specs.Nets.{joined, pairs_agents}
use Rattle.ic_nets.proofs.sketch.add_equations.Given as goal

-- what is there, and what is left to add
abbrev pub invariant-loop-equation : goal.invariant-loop-equation
invariant-loop-equation l = (l.agents.items ++ pairs_agents (map pair (drop l.equation-index l.equations)) ≡ l.fn.agents.items ++ pairs_agents (map pair l.equations))
    × (l.links.items ++ joined l.rules.rules (length l.agents.items) (map pair (drop l.equation-index l.equations))
    ≡ l.fn.links.items ++ joined l.rules.rules (length l.fn.agents.items) (map pair l.equations))
