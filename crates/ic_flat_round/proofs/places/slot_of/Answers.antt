use Rattle.ic_flat_round.specs.inner.Places.{slot_of}
use Rattle.ic_flat_round.proofs.places.slot_of.Goals as goal

pub returns : goal.returns
unfolding slot_of
returns c = c.wrapping_shr.ensures
