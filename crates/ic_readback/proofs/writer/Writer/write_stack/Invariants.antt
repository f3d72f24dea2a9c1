use Rattle.std.proofs.Common.{reverse}
use Rattle.ic_readback.specs.inner.Mending.{parts_left, Wrote}
use Rattle.ic_readback.proofs.Puttings.{load}
use Rattle.ic_readback.proofs.writer.Writer.write_stack.Given as goal

abbrev pub invariant-loop-token : goal.invariant-loop-token
invariant-loop-token l = Wrote (reverse l.initial.self.stack.items) l.initial.self l.self

abbrev pub decreases-loop-token : goal.decreases-loop-token
decreases-loop-token l = load (reverse l.self.stack.items) (parts_left l.self)
