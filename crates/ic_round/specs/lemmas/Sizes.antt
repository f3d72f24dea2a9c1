-- How large a configuration is once its active equations have fired.
use Rattle.std.specs.Prelude.{ℕ, List, sum_by}
use Rattle.ic_term.specs.Tree.{Pair, pair_nodes}
use Rattle.ic_rules.specs.Rule.{Rule}
use Rattle.ic_round.specs.Firing.{fired_pair}

-- the nodes of an equation once it has fired, if it is active; its names don't matter
abbrev pub fired_nodes : List Rule → Pair → ℕ
fired_nodes rs p = sum_by pair_nodes (fired_pair rs 0 p)
