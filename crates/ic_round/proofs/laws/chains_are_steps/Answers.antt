use Rattle.ic_round.specs.lemmas.ChainLemmas.{steps-next, steps-over, steps-names, steps_counted}
use Rattle.ic_round.proofs.laws.chains_are_steps.Goals as goal

pub returns-clause-next : goal.returns-clause-next
returns-clause-next c = steps-next

pub returns-clause-over : goal.returns-clause-over
returns-clause-over c = steps-over

pub returns-clause-single_steps : goal.returns-clause-single_steps
returns-clause-single_steps c = steps_counted

pub returns-clause-names : goal.returns-clause-names
returns-clause-names c = steps-names
