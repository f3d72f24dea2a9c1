use denote.Param.Send.{sendable}
use Rattle.std.proofs.Crossing.{crosses}
use Rattle.ic_attend.proofs.crews.start_each.Goals as goal
use Rattle.ic_crew.specs.lemmas.Crossings.{Post_send}

pub spawn-requires-send-F : goal.spawn-requires-send-F
spawn-requires-send-F g c κs within =
    let share = c.type_bounds.sync-R in
    let gate = c.type_bounds.sync-G in
    search (Post_send, sendable, crosses) depth 60
