use Rattle.ic_expand.proofs.RuleLemmas.{has_its_rule}
use Rattle.ic_expand.proofs.laws.each_symbol_has_its_rule.Goals as goal

pub returns : goal.returns
returns c = has_its_rule
