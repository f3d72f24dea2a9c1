use Rattle.std.proofs.Common.{◌≡◌, ◌<◌, true}
use Rattle.ic_workers.specs.inner.Keeping.{TakesTurn}
use Rattle.ic_workers.proofs.kept.Hand.take_turn.Given as goal

abbrev pub invariant-loop-place : goal.invariant-loop-place
invariant-loop-place l = record {
  turn : TakesTurn l.program l.initial.self l.self;
  -- a part that still has something to do has made all that it might, at least one
  more : l.goes_on ≡ true → l.initial.self.made < l.self.made;
}
