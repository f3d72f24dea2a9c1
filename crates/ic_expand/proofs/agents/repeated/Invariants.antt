use Rattle.std.proofs.Common.{◌≡◌, map, replicate}
use Rattle.ic_expand.proofs.agents.repeated.Given as goal

-- as many so far as times
abbrev pub invariant-loop : goal.invariant-loop
invariant-loop l = map (λ t. t.items) l.texts.items ≡ replicate l.counter l.text
