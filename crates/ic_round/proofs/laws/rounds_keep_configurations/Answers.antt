use Rattle.ic_round.specs.lemmas.RoundLemmas.{fired_is_configuration, fired_is_over, round_is_configuration, round_is_over}
use Rattle.ic_round.specs.lemmas.SettledLemmas.{settled_is, settled_over}
use Rattle.ic_round.proofs.laws.rounds_keep_configurations.Goals as goal

pub returns-clause-fired : goal.returns-clause-fired
returns-clause-fired c = fired_is_configuration

pub returns-clause-fired_over : goal.returns-clause-fired_over
returns-clause-fired_over c = fired_is_over

pub returns-clause-settled : goal.returns-clause-settled
returns-clause-settled c = settled_is

pub returns-clause-settled_over : goal.returns-clause-settled_over
returns-clause-settled_over c = settled_over

pub returns-clause-round : goal.returns-clause-round
returns-clause-round c = round_is_configuration

pub returns-clause-round_over : goal.returns-clause-round_over
returns-clause-round_over c = round_is_over
