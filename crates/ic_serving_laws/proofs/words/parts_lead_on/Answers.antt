use Rattle.std.proofs.Common.{refl}
use Rattle.ic_serving_laws.proofs.words.parts_lead_on.Goals as goal

pub returns-clause-none : goal.returns-clause-none
returns-clause-none g c server = refl

pub returns-clause-ended : goal.returns-clause-ended
returns-clause-ended g c parts first serving are = (are, refl)

pub returns-clause-stopped : goal.returns-clause-stopped
returns-clause-stopped g c parts first serving found are here = (are, here, refl)

pub returns-clause-other : goal.returns-clause-other
returns-clause-other g c parts first before server moves are run = (before, are, run, refl)
