use Rattle.std.proofs.Common.{◌-◌, length}
use Rattle.ic_flat_round.specs.inner.Rebuilding.{IsRun}
use Rattle.ic_flat_round.proofs.rebuilding.after_words.Given as goal

-- the words so far stand for themselves
abbrev pub invariant-loop-rest : goal.invariant-loop-rest
invariant-loop-rest l = record { run : IsRun l.words l.bound.entries l.fn.span l.rest }

abbrev pub decreases-loop-rest : goal.decreases-loop-rest
decreases-loop-rest l = length l.words - l.rest.place
