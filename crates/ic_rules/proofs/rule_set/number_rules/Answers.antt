use Rattle.std.proofs.Common.{◌≡◌, ◌<◌, false, not, length, ap, ◌∙◌, arith}
use Rattle.std.proofs.lemmas.Grind.{common_steps}
use Rattle.ic_rules.specs.Renaming.{are_paired}
use Rattle.ic_rules.specs.Rule.{rule_names}
use Rattle.ic_rules.specs.Written.{written}
use Rattle.ic_rules.proofs.RuleSetLemmas.{none_at}
use Rattle.ic_rules.proofs.rule_set.number_rules.Goals as goal

pub of_agents-requires : goal.of_agents-requires
of_agents-requires c =
    let rs = c.args.rules.now in
    let within : c.loop-i.i < length rs = omega arith in
    let paired = none_at (λ r. not (are_paired (rule_names r))) written 0 rs c.loop-i.i c.index-rules-i.result c.requires.counted within in
    let here : not (are_paired (rule_names (written c.index-rules-i.result))) ≡ false = ap (λ p. not (are_paired (rule_names (written p)))) c.index-rules-i.is ∙ paired in
    grind (arith, common_steps, here)
