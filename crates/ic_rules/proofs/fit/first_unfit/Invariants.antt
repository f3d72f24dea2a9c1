use Rattle.std.proofs.Common.{◌≡◌, drop, map}
use Rattle.std.specs.List.{flat_map}
use Rattle.ic_rules.specs.Rule.{rule_agents}
use Rattle.ic_rules.specs.RuleSet.{unfit_among, first_unfit}
use Rattle.ic_rules.specs.Written.{written}
use Rattle.ic_rules.proofs.fit.first_unfit.Given as goal

-- the answer is that of the rules left
abbrev pub invariant-loop-left : goal.invariant-loop-left
invariant-loop-left l = unfit_among l.symbols (flat_map rule_agents (map written (drop l.left-index l.rules))) ≡ first_unfit l.symbols (map written l.rules)
