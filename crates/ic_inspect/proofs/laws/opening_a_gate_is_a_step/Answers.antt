use Rattle.ic_frames.specs.Frames.{disk_of, target_of, number_of}
use Rattle.ic_frames.specs.Opened.{IsOnNewest}
use Rattle.ic_inspect.proofs.PhaseLemmas.{of_images, on_closed, opening_step, whole_of}
use Rattle.ic_inspect.proofs.laws.opening_a_gate_is_a_step.Goals as goal

pub returns-clause-step : goal.returns-clause-step
returns-clause-step g c = λ next keeps closed on staged.
    let old = c.args.frames.now in
    let r = c.open_gate.result in
    let file = g.D.Disk.content (disk_of old) in
    opening_step r (target_of old) (number_of old) next file (g.D.Disk.content (disk_of c.open_gate.new.self))
    (whole_of r old c.the_newest_slot_is_held.ensures.damaged c.open_gate.ensures.fault.broken (c.one_body_is_kept.ensures keeps) on.newest)
    (on_closed old file closed on) staged (c.open_gate.ensures.opens.written keeps)

pub returns-clause-newest : goal.returns-clause-newest
returns-clause-newest g c = λ keeps.
    let new = c.open_gate.new.self in
    of_images c.open_gate.result (g.D.Disk.content (disk_of new)) (g.D.Disk.image (disk_of new)) (IsOnNewest new)
    (g.met.D.Disk.content_is_image (disk_of new)) (c.open_gate.ensures.crash.newest keeps)
