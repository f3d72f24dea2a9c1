use denote.Param.Send.{sendable}
use Rattle.std.proofs.Crossing.{crosses}
use Rattle.ic_attend.proofs.signs.Signs.TheSendSync as signs
use Rattle.ic_attend.proofs.Crossings.{Command_row_send, Desk_row_sync, Speech_send}
use Rattle.ic_attend.proofs.threads.start_client.Goals as goal

pub spawn_with-started-requires-send-F : goal.spawn_with-started-requires-send-F
spawn_with-started-requires-send-F g c κs within =
    let send = c.type_bounds.send-D in
    let share = c.type_bounds.sync-R in
    let gate = c.type_bounds.sync-G in
    search (Desk_row_sync, Command_row_send, signs.the_sync, sendable, crosses) depth 60

pub spawn_with-started-requires-send-T : goal.spawn_with-started-requires-send-T
spawn_with-started-requires-send-T g c κs within = search (Speech_send, sendable, crosses) depth 40
