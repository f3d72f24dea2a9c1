use Rattle.std.proofs.Common.{◌≡◌, drop}
use Rattle.ic_flat.specs.Words.{forest}
use Rattle.ic_flat.specs.inner.Stacks.{upright}
use Rattle.ic_flat.proofs.reading.terms_of.Given as goal

-- the terms of the words that follow
abbrev pub invariant-loop-i : goal.invariant-loop-i
invariant-loop-i l = upright l.stack.items ≡ forest (drop l.i l.words)
