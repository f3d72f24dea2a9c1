use Rattle.ic_round.specs.lemmas.QuietLemmas.{quiet_is_no_step}
use Rattle.ic_round.proofs.laws.quiet_is_no_step.Goals as goal

pub returns : goal.returns
returns c = quiet_is_no_step
