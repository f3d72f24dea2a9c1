-- Equations of two agents that wait while names are put elsewhere.
use Rattle.std.specs.Prelude.{List, ◌++◌, Bool, true, false, ◌&&◌}
use Rattle.std.specs.List.{flat_map}
use Rattle.ic_term.specs.Tree.{Tree, name, agent, Pair}
use Rattle.ic_round.specs.Firing.{arguments}

abbrev pub is_agent : Tree → Bool
is_agent (name n) = false
is_agent (agent s ts) = true

-- both sides of an equation are agents
abbrev pub are_agents : Pair → Bool
are_agents p = is_agent p.left && is_agent p.right

-- the arguments of both sides of such equations, in order
abbrev pub arguments_in : List Pair → List Tree
arguments_in es = flat_map (λ p. arguments p.left ++ arguments p.right) es
