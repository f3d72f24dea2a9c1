use Rattle.std.proofs.Common.{◌≡◌, drop}
use Rattle.std.specs.List.{position_from}
use Rattle.ic_rules.specs.Rule.{stands_for}
use Rattle.ic_rules.proofs.rule_set.place_among.Given as goal

-- the rules that are left decide
abbrev pub invariant-loop-place : goal.invariant-loop-place
invariant-loop-place l =
    position_from (stands_for l.left l.right) l.place (drop l.place l.rules) ≡ position_from (stands_for l.left l.right) 0 l.rules
