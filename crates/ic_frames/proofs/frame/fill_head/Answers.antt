use Rattle.std.proofs.Common.{◌∙◌}
use Rattle.ic_frames.proofs.FrameLemmas.{filled_frame}
use Rattle.ic_frames.proofs.frame.fill_head.Goals as goal

pub returns : goal.returns
returns c = filled_frame c.args.number c.args.frame.now c.copy_from_slice.new.self c.copy_from_slice-2.new.self c.ranges.number.fits c.requires.head c.requires.short
    (c.copy_from_slice.ensures.after ∙ c.to_be_bytes.ensures)
    (c.copy_from_slice-2.ensures.after ∙ c.to_be_bytes-2.ensures)
