use Rattle.std.proofs.Common.{arith}
use Rattle.std.proofs.lemmas.List.{length-take}
use Rattle.ic_streams.specs.lemmas.Reading.{taken_more}
use Rattle.ic_streams.proofs.stream.read_text_within.Goals as goal

pub returns-in_err-extend_from_slice-in-Ok-clause-some : goal.returns-in_err-extend_from_slice-in-Ok-clause-some
returns-in_err-extend_from_slice-in-Ok-clause-some g c =
    taken_more c.args.limits c.from_residual.result _ _ _ _ _ c.loop.invariant.0 c.in-Ok.ensures.bytes.0
    (omega (arith, c.text_bytes-most.ensures, c.saturating_add.ensures, c.min-room.ensures, c.in-Ok.ensures.bound, c.read.auto.buf, length-take c.min-room.result c.loop.chunk))
