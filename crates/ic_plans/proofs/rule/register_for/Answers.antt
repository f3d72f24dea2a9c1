use Rattle.std.proofs.Common.{unwrap_or, ap, ◌∙◌}
use Rattle.ic_plans.proofs.rule.register_for.Goals as goal

pub returns : goal.returns
returns c = c.unwrap_or.ensures ∙ ap (λ o. unwrap_or o 0) c.get.ensures
