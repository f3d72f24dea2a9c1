use Rattle.std.proofs.Common.{refl}
use Rattle.ic_serving_laws.proofs.ToldLemmas.{parts_told}
use Rattle.ic_serving_laws.proofs.words.each_part_is_told.Goals as goal

pub returns-clause-joined : goal.returns-clause-joined
returns-clause-joined g c = parts_told

pub returns-clause-ended : goal.returns-clause-ended
returns-clause-ended g c serving = refl

pub returns-clause-stopped : goal.returns-clause-stopped
returns-clause-stopped g c serving found = refl

pub returns-clause-other : goal.returns-clause-other
returns-clause-other g c moves server = refl
