use Rattle.std.proofs.Common.{◌+◌, drop, arith, length-drop, ◌∙◌}
use Rattle.ic_frames.specs.Frames.{disk_of, target_of, number_of, is_closed}
use Rattle.ic_frames.specs.Staged.{IsStaged}
use Rattle.ic_inspect.proofs.PhaseLemmas.{newest_after, of_images, on_of, ok_of, whole_of, writing_on, writing_step, written_amid}
use Rattle.ic_inspect.proofs.laws.writing_a_body_is_a_step.Goals as goal

pub returns-clause-step : goal.returns-clause-step
returns-clause-step g c = λ keeps on.
    let old = c.args.frames.now in
    let r = c.write_body.result in
    let writes = c.write_body.ensures.writes in
    let file = g.D.Disk.content (disk_of old) in
    let file_after = g.D.Disk.content (disk_of c.write_body.new.self) in
    let whole = whole_of r old c.the_newest_slot_is_held.ensures.damaged c.write_body.ensures.fault.broken (c.one_body_is_kept.ensures keeps) on.newest in
    writing_step r (target_of old) file file_after whole
    (written_amid r (target_of old) (number_of old) (drop 13 c.args.frame.now) file file_after (omega (arith, c.requires.short, length-drop 13 c.args.frame.now)) whole (on.shut c.requires.closed)
    (writes.written keeps) (writes.written_whole keeps))

pub returns-clause-newest : goal.returns-clause-newest
returns-clause-newest g c = λ keeps on.
    let old = c.args.frames.now in
    let new = c.write_body.new.self in
    let r = c.write_body.result in
    let writes = c.write_body.ensures.writes in
    let file = g.D.Disk.content (disk_of old) in
    let file_after = g.D.Disk.content (disk_of new) in
    let whole = whole_of r old c.the_newest_slot_is_held.ensures.damaged c.write_body.ensures.fault.broken (c.one_body_is_kept.ensures keeps) on.newest in
    newest_after r new (target_of old) (number_of old) file_after writes.target writes.number (ok_of r _ (writes.closed ∙ c.requires.closed))
    (writing_on r (target_of old) (number_of old) (is_closed old) file file_after (on_of old file on)
    (written_amid r (target_of old) (number_of old) (drop 13 c.args.frame.now) file file_after (omega (arith, c.requires.short, length-drop 13 c.args.frame.now)) whole (on.shut c.requires.closed)
    (writes.written keeps) (writes.written_whole keeps)))

pub returns-clause-staged : goal.returns-clause-staged
returns-clause-staged g c = λ keeps.
    let new = c.write_body.new.self in
    of_images c.write_body.result (g.D.Disk.content (disk_of new)) (g.D.Disk.image (disk_of new)) (IsStaged (target_of new) (number_of new + 1) (drop 13 c.args.frame.now))
    (g.met.D.Disk.content_is_image (disk_of new)) (c.write_body.ensures.crash.whole keeps)
