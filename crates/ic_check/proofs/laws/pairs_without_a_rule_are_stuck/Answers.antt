use Rattle.ic_check.proofs.Stuck.{others_silent, stuck_found, stuck_idle, stuck_stays}
use Rattle.ic_check.proofs.laws.pairs_without_a_rule_are_stuck.Goals as goal

pub returns-clause-found : goal.returns-clause-found
returns-clause-found c = stuck_found

pub returns-clause-silent : goal.returns-clause-silent
returns-clause-silent c = others_silent

pub returns-clause-idle : goal.returns-clause-idle
returns-clause-idle c = stuck_idle

pub returns-clause-stays : goal.returns-clause-stays
returns-clause-stays c = stuck_stays

pub returns-clause-rounds : goal.returns-clause-rounds
returns-clause-rounds c = λ rs d a b n none. stuck_stays rs d _ a b none (c.rounds_are_steps.ensures.iterate rs n d)
