use Rattle.ic_batch.proofs.RoomLemmas.{room_stays}
use Rattle.ic_batch.proofs.laws.a_batch_that_goes_on_has_room.Goals as goal

pub returns : goal.returns
returns c most jobs t u under room none = room (room_stays most jobs t u under none)
