use Rattle.std.proofs.Common.{drop}
use Rattle.ic_flat_round.specs.inner.Room.{GoesOn}
use Rattle.ic_flat_round.proofs.firing.put_each.Given as goal

-- the later ones are left
abbrev pub invariant-loop-word : goal.invariant-loop-word
invariant-loop-word l = GoesOn l.fn.out l.words l.out (drop l.word-index l.words)
