use Rattle.ic_round.specs.Steps.{interaction}
use Rattle.ic_exact.proofs.rounds.a_step_that_is_refused_leads_too_far.Goals as goal

pub returns : goal.returns
returns c = λ rs d place is. (is.after, interaction d is.after place is.step, is.large)
