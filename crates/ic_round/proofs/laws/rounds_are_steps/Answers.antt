use Rattle.ic_round.specs.lemmas.StepsLemmas.{round_reached, iterate_reached}
use Rattle.ic_round.proofs.laws.rounds_are_steps.Goals as goal

pub returns-clause-round : goal.returns-clause-round
returns-clause-round c = round_reached

pub returns-clause-iterate : goal.returns-clause-iterate
returns-clause-iterate c = iterate_reached
