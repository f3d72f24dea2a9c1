-- How large works are, and parts of them. Sizes and their sums stop at 2^64 - 1 (this project's
-- choice).
use Rattle.std.specs.Prelude.{ℕ, ◌+◌, List, min, sum_by, slice_get}
use Rattle.std.specs.Option.{option_map_or}
use Rattle.ic_term.specs.Tree.{nodes}
use Rattle.ic_rules.specs.Rule.{Rule, rule_nodes}
use Rattle.ic_round.specs.Works.{PlainWork}
use Rattle.ic_crew.specs.declared.sizes.TheConstants.{MAX_SIZE}

-- the nodes of the arguments of the rule at a place
abbrev pub rule_size : List Rule → ℕ → ℕ
rule_size rs i = option_map_or rule_nodes (slice_get rs i) 0

-- the nodes of a work's two cells and those of its rule's arguments
abbrev pub work_size : List Rule → PlainWork → ℕ
work_size rs w =
    min (nodes w.active.left + nodes w.active.right + rule_size rs w.active.rule) MAX_SIZE

-- the sizes of works together
abbrev pub part_size : List Rule → List PlainWork → ℕ
part_size rs ws = min (sum_by (work_size rs) ws) MAX_SIZE
