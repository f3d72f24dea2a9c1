use Rattle.std.proofs.Common.{map}
use Rattle.ic_rules.specs.Written.{written}
use Rattle.ic_rules.specs.Rule.{rule_nodes}
use Rattle.ic_codec.specs.Rules.{rule_bytes}
use Rattle.ic_codec.specs.inner.Forms.{HasRuleBytes}
use Rattle.ic_codec.specs.inner.Fronts.{BeginsWithMany}
use Rattle.ic_codec.proofs.rules.rules_at.Given as goal

-- so many have been read
abbrev pub invariant-loop : goal.invariant-loop
invariant-loop l = BeginsWithMany (HasRuleBytes l.symbols) rule_bytes rule_nodes l.counter 2048 l.bytes (map written l.rules.items) l.left l.rest
