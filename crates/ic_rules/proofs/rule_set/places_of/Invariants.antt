use Rattle.std.proofs.Common.{◌≡◌, map, drop, take}
use Rattle.ic_rules.specs.RuleSet.{repeated_after, first_repeated}
use Rattle.ic_rules.specs.Written.{written}
use Rattle.ic_rules.specs.inner.Places.{ArePlaces}
use Rattle.ic_rules.proofs.rule_set.places_of.Given as goal

-- the map has the places of the rules so far, none of whose pairs comes twice
abbrev pub invariant-loop-i : goal.invariant-loop-i
invariant-loop-i l =
    ArePlaces l.places (map written (take l.i l.rules))
    × (repeated_after (map written (take l.i l.rules)) (map written (drop l.i l.rules)) ≡ first_repeated (map written l.rules))
