use Rattle.ic_frames.proofs.TurnLemmas.{part_torn}
use Rattle.ic_frames.proofs.laws.a_write_in_part_has_torn.Goals as goal

pub returns : goal.returns
returns g = part_torn
