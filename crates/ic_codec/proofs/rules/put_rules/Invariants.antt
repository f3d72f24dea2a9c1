use Rattle.std.proofs.Common.{drop}
use Rattle.std.specs.List.{flat_map}
use Rattle.ic_codec.specs.inner.Room.{GoesOn}
use Rattle.ic_codec.specs.Rules.{rule_bytes, rules_bytes}
use Rattle.ic_codec.proofs.rules.put_rules.Given as goal

-- the rules after these are left
abbrev pub invariant-loop-rule : goal.invariant-loop-rule
invariant-loop-rule l = GoesOn l.fn.out (rules_bytes l.rules) l.out (flat_map rule_bytes (drop l.rule-index l.rules))
