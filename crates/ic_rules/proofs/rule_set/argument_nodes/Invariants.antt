use Rattle.std.proofs.Common.{◌≡◌, ◌+◌, ◌-◌, ◌^◌, ◌<◌, min, drop, sum_by}
use Rattle.ic_rules.specs.Rule.{rule_nodes}
use Rattle.ic_rules.proofs.rule_set.argument_nodes.Given as goal

-- what is counted so far and the nodes of what is left are those of all
abbrev pub invariant-loop-rule : goal.invariant-loop-rule
invariant-loop-rule l =
    (min (l.count + sum_by rule_nodes (drop l.rule-index l.rules)) (2 ^ 64 - 1) ≡ min (sum_by rule_nodes l.rules) (2 ^ 64 - 1)) × (l.count < 2 ^ 64)
