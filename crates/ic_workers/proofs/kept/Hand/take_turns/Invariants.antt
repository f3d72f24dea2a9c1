use Rattle.std.proofs.Common.{◌-◌}
use Rattle.ic_workers.specs.inner.Keeping.{TakesTurn}
use Rattle.ic_workers.proofs.kept.Hand.take_turns.Given as goal

abbrev pub invariant-turns : goal.invariant-turns
invariant-turns l = TakesTurn l.program l.initial.self l.self

abbrev pub decreases-turns : goal.decreases-turns
decreases-turns l = l.self.budget - l.self.made
