use Rattle.std.proofs.Common.{◌≡◌, map, drop, not}
use Rattle.std.specs.List.{position_from}
use Rattle.ic_rules.specs.Renaming.{are_paired}
use Rattle.ic_rules.specs.Rule.{rule_names}
use Rattle.ic_rules.specs.RuleSet.{first_uncounted}
use Rattle.ic_rules.specs.Written.{written}
use Rattle.ic_rules.proofs.rule_set.first_uncounted.Given as goal

-- the search goes on from the rules left
abbrev pub invariant-loop-i : goal.invariant-loop-i
invariant-loop-i l = position_from (λ r. not (are_paired (rule_names r))) l.i (map written (drop l.i l.rules)) ≡ first_uncounted (map written l.rules)
