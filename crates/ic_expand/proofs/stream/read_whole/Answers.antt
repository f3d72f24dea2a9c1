use Rattle.std.proofs.Common.{arith}
use Rattle.std.proofs.lemmas.List.{length-take}
use Rattle.ic_expand.proofs.Streaming.{taken_more}
use Rattle.ic_expand.proofs.stream.read_whole.Goals as goal

pub returns-in_err-extend_from_slice-in-Ok-clause-some : goal.returns-in_err-extend_from_slice-in-Ok-clause-some
returns-in_err-extend_from_slice-in-Ok-clause-some g c =
    taken_more c.from_residual.result _ _ _ _ _ c.loop.invariant.0 c.in-Ok.ensures.bytes.0
    (omega (arith, c.in-Ok.ensures.bound, c.read.auto.buf, length-take c.min-room.result c.loop.chunk))
