use Rattle.ic_in_place_laws.proofs.Soon.{soon}
use Rattle.ic_in_place_laws.proofs.going_on.rounds_end_soon_after_enough.Goals as goal

pub returns : goal.returns
returns c = λ s most enough rounds reduced is some. soon s most enough rounds reduced is some
