use Rattle.std.proofs.Common.{ap}
use Rattle.ic_frames.specs.Frames.{disk_of, target_of, number_of, is_closed}
use Rattle.ic_inspect.proofs.PhaseLemmas.{closing_on, closing_step, newest_after, on_of, whole_of}
use Rattle.ic_inspect.proofs.laws.closing_a_gate_is_a_step.Goals as goal

pub returns-clause-step : goal.returns-clause-step
returns-clause-step g c = λ keeps on.
    let old = c.args.frames.now in
    let r = c.close_gate.result in
    let closes = c.close_gate.ensures.closes in
    closing_step r (target_of old) (is_closed old) (g.D.Disk.content (disk_of old)) (g.D.Disk.content (disk_of c.close_gate.new.self))
    (whole_of r old c.the_newest_slot_is_held.ensures.damaged c.close_gate.ensures.fault.broken (c.one_body_is_kept.ensures keeps) on.newest)
    (closes.written keeps) (λ shut. ap g.D.Disk.content (closes.idle shut))

pub returns-clause-newest : goal.returns-clause-newest
returns-clause-newest g c = λ keeps on.
    let old = c.args.frames.now in
    let new = c.close_gate.new.self in
    let r = c.close_gate.result in
    let closes = c.close_gate.ensures.closes in
    let file = g.D.Disk.content (disk_of old) in
    let file_after = g.D.Disk.content (disk_of new) in
    newest_after r new (target_of old) (number_of old) file_after closes.target closes.number closes.closed
    (closing_on r (target_of old) (number_of old) (is_closed old) file file_after
    (whole_of r old c.the_newest_slot_is_held.ensures.damaged c.close_gate.ensures.fault.broken (c.one_body_is_kept.ensures keeps) on.newest)
    (on_of old file on) (closes.written keeps) (λ shut. ap g.D.Disk.content (closes.idle shut)))
