use Rattle.std.proofs.Common.{length, ap, ◌∙◌, subst}
use Rattle.ic_in_place.specs.Counting.{TellsNameSteps}
use Rattle.ic_in_place.specs.Reducing.{IsReached}
use Rattle.ic_in_place.specs.Reductions.{stuck_at}
use Rattle.ic_in_place.specs.declared.running.End.{End}
use Rattle.ic_in_place_laws.proofs.outcomes.a_quiet_outcome_is_that_of_every_order.Goals as goal

pub returns-clause-net : goal.returns-clause-net
returns-clause-net c = λ s bounds asked outcome line e kinds is quiet chain still.
    c.a_quiet_end_is_that_of_every_order.ensures.every_order s bounds is.answer e outcome.interactions outcome.by_rule.items kinds
    is.rule_set is.over is.names
    (subst (λ (x : End). IsReached s bounds is.answer x outcome.interactions outcome.by_rule.items) quiet is.reached)
    chain still

pub returns-clause-name_steps : goal.returns-clause-name_steps
returns-clause-name_steps c = λ s bounds asked outcome line e kinds is quiet chain still.
    c.name_steps_are_those_of_every_order.ensures.told s.rules s.config e outcome.interactions (length is.answer.equations) outcome.name_steps kinds
    is.rule_set is.over is.names
    (subst (λ (x : End). TellsNameSteps s.rules.rules s.config outcome.interactions (length is.answer.equations) x outcome.name_steps) quiet is.name_steps)
    chain still

pub returns-clause-stuck : goal.returns-clause-stuck
returns-clause-stuck c = λ s bounds asked outcome line is quiet. is.stuck ∙ ap (λ (x : End). stuck_at x s.rules.symbols is.answer) quiet
