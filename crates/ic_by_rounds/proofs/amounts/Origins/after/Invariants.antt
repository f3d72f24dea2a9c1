use Rattle.std.proofs.Common.{◌+◌, ◌≤◌, drop, length, map}
use Rattle.ic_by_rounds.specs.inner.Amounts.{Agree, products}
use Rattle.ic_by_rounds.proofs.amounts.Origins.after.Given as goal

abbrev pub invariant-loop-plan : goal.invariant-loop-plan
invariant-loop-plan l = record {
  arities : length l.fired ≤ length l.self.changes.items
      → Agree (l.added.arities + products (drop l.plan l.fired) (map (λ change. change.arities) (drop l.plan l.self.changes.items)))
      (products l.fired (map (λ change. change.arities) l.self.changes.items));
  agents : length l.fired ≤ length l.self.changes.items
      → Agree (l.added.agents + products (drop l.plan l.fired) (map (λ change. change.agents) (drop l.plan l.self.changes.items)))
      (products l.fired (map (λ change. change.agents) l.self.changes.items));
}
