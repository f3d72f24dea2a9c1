use Rattle.std.proofs.Common.{◌≡◌, ◌-◌, map}
use Rattle.ic_expand.specs.Generic.{names_from}
use Rattle.ic_expand.proofs.agents.names_from.Given as goal

-- those of the numbers so far
abbrev pub invariant-loop-number : goal.invariant-loop-number
invariant-loop-number l = map (λ w. w.items) l.names.items ≡ names_from l.first (l.number - l.first)
