use Rattle.ic_by_rounds.proofs.Reductions.{quiet_stays_on}
use Rattle.ic_by_rounds.proofs.laws.quiet_configurations_stay.Goals as goal

pub returns : goal.returns
returns c = quiet_stays_on
