use Rattle.std.proofs.Common.{◌+◌, length, drop, arith}
use Rattle.std.specs.List.{flat_map}
use Rattle.ic_codec.specs.Numbers.{two_bytes}
use Rattle.ic_codec.specs.Rules.{rule_bytes}
use Rattle.ic_codec.proofs.Appending.{bytes_from, left_fits, goes_on, goes_after}
use Rattle.ic_codec.proofs.rules.put_rules.Goals as goal

pub put_rule-requires : goal.put_rule-requires
put_rule-requires c =
    left_fits (rule_bytes c.rule-item.result) (flat_map rule_bytes (drop (c.loop-rule.rule-index + 1) c.args.rules.now)) (bytes_from rule_bytes c.args.rules.now c.loop-rule.rule-index c.rule-item.result (omega arith) c.rule-item.is) c.loop-rule.invariant

pub loop-rule-preserved : goal.loop-rule-preserved
loop-rule-preserved c =
    goes_on (rule_bytes c.rule-item.result) (flat_map rule_bytes (drop (c.loop-rule.rule-index + 1) c.args.rules.now)) (bytes_from rule_bytes c.args.rules.now c.loop-rule.rule-index c.rule-item.result (omega arith) c.rule-item.is) c.loop-rule.invariant c.put_rule.ensures

pub loop-rule-init : goal.loop-rule-init
loop-rule-init c = goes_after (two_bytes (length c.args.rules.now)) (flat_map rule_bytes c.args.rules.now) c.requires.fits c.put_two_bytes.ensures
