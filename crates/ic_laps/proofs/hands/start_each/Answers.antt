use denote.Param.Send.{sendable}
use Rattle.std.proofs.Crossing.{crosses}
use Rattle.ic_laps.proofs.Crossings.{Post_send}
use Rattle.ic_laps.proofs.hands.start_each.Goals as goal

pub spawn-requires-send-F : goal.spawn-requires-send-F
spawn-requires-send-F g c κs within =
    let own = c.type_bounds.send-R in
    search (Post_send, sendable, crosses) depth 60
