use Rattle.std.proofs.Common.{◌≡◌, map, drop, nat_le}
use Rattle.std.specs.List.{list_all}
use Rattle.ic_rules.specs.Rule.{rule_nodes}
use Rattle.ic_rules.specs.Written.{written}
use Rattle.ic_rules.specs.declared.limits.TheConstants.{MAX_RULE_NODES}
use Rattle.ic_rules.proofs.rule_set.are_short.Given as goal

-- the rules left tell whether all are short
abbrev pub invariant-loop-left : goal.invariant-loop-left
invariant-loop-left l =
    list_all (λ r. nat_le (rule_nodes r) MAX_RULE_NODES) (map written (drop l.left-index l.rules)) ≡ list_all (λ r. nat_le (rule_nodes r) MAX_RULE_NODES) (map written l.rules)
