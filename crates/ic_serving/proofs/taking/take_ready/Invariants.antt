use Rattle.std.proofs.Common.{true, ℕ}
use Rattle.ic_serving.specs.inner.Group.{TakesReady}
use Rattle.ic_serving.proofs.taking.take_ready.Given as goal

-- as many commands were taken as there were turns, or fewer
abbrev pub invariant-loop : goal.invariant-loop
invariant-loop g l = (limit : ℕ) → TakesReady limit l.counter true l.fn.lines l.lines l.fn.group.answers.items l.group.answers.items l.fn.group.count l.group.count l.fn.book l.book
