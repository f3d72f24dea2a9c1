use Rattle.std.proofs.Common.{◌≡◌, map, drop, take}
use Rattle.std.specs.List.{position_from, AllByRecursion}
use Rattle.ic_rules.specs.Rule.{numbered, is_lopsided, IsRule}
use Rattle.ic_rules.specs.RuleSet.{first_lopsided}
use Rattle.ic_rules.specs.Written.{written}
use Rattle.ic_rules.proofs.rule_set.number_rules.Given as goal

-- the rules so far are numbered, and the search goes on from the rules left
abbrev pub invariant-loop-i : goal.invariant-loop-i
invariant-loop-i l =
    AllByRecursion IsRule l.numbered.items
    × (l.numbered.items ≡ map numbered (map written (take l.i l.rules)))
    × (position_from is_lopsided l.i (map numbered (map written (drop l.i l.rules))) ≡ first_lopsided (map written l.rules))
