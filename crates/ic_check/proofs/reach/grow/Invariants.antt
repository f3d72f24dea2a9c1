use Rattle.std.proofs.Common.{vec_len}
use Rattle.ic_check.proofs.Growth.{IsGrown}
use Rattle.ic_check.proofs.reach.grow.Given as goal

-- the symbols have grown by those that were taken out
abbrev pub invariant-loop-place : goal.invariant-loop-place
invariant-loop-place l = record { grown : IsGrown l.fn.waiting.items l.fn.seen.items l.waiting.items l.seen.items }

abbrev pub decreases-loop-place : goal.decreases-loop-place
decreases-loop-place l = vec_len l.waiting
