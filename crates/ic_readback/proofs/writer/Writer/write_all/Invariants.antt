use Rattle.std.proofs.Common.{length}
use Rattle.ic_readback.specs.inner.Writing.{AreIndexed}
use Rattle.ic_readback.specs.inner.Mending.{places_left, Mends}
use Rattle.ic_readback.proofs.writer.Writer.write_all.Given as goal

abbrev pub invariant-loop-term : goal.invariant-loop-term
invariant-loop-term l = record {
  mends : Mends l.initial.self l.self;
  indexed : AreIndexed l.self.indices (places_left l.self);
}

abbrev pub decreases-loop-term : goal.decreases-loop-term
decreases-loop-term l = length l.self.loose.items
