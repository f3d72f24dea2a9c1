use Rattle.std.proofs.Common.{◌≡◌, ◌++◌, true, drop, map}
use Rattle.ic_expand.specs.Generic.{in_row}
use Rattle.ic_expand.proofs.agents.put_in_row.Given as goal

-- the rules so far and those left are all
abbrev pub invariant-loop-rule : goal.invariant-loop-rule
invariant-loop-rule l = l.out.items ++ in_row l.first (map (λ r. r.items) (drop l.rule-index l.rules)) ≡ l.fn.out.items ++ in_row true (map (λ r. r.items) l.rules)
