use Rattle.std.proofs.Common.{◌≡◌, map}
use Rattle.ic_expand.specs.Generic.{copies}
use Rattle.ic_expand.proofs.agents.copies.Given as goal

-- those of the places so far
abbrev pub invariant-loop-number : goal.invariant-loop-number
invariant-loop-number l = map (λ a. a.items) l.agents.items ≡ copies l.copier l.number
