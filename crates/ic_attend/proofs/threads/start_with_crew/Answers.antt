use denote.Param.Send.{sendable}
use Rattle.std.proofs.Crossing.{crosses}
use Rattle.ic_attend.proofs.runner.Duty.TheSendSync as duty
use Rattle.ic_attend.proofs.signs.Signs.TheSendSync as signs
use Rattle.ic_attend.proofs.Crossings.{Crew_send, Desk_row_sync}
use Rattle.ic_attend.proofs.threads.start_with_crew.Goals as goal

pub spawn_with-started-requires-send-F : goal.spawn_with-started-requires-send-F
spawn_with-started-requires-send-F g c κs within =
    let send = c.type_bounds.send-D in
    let share = c.type_bounds.sync-R in
    let gate = c.type_bounds.sync-G in
    search (Crew_send, Desk_row_sync, signs.the_sync, duty.the_send, sendable, crosses) depth 60
