use Rattle.std.proofs.Common.{subst}
use Rattle.ic_rules.specs.RuleSet.{Rules, IsRuleSet}
use Rattle.ic_flat_rules.proofs.flat_rules.FlatRules.rules.Goals as goal

pub returns-clause-sound : goal.returns-clause-sound
returns-clause-sound c = subst (λ (q : Rules). IsRuleSet q) c.self.view_is c.self.invariant.0
