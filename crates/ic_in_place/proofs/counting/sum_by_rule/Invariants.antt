use Rattle.std.proofs.Common.{◌≡◌, ℕ, ◌+◌, ◌<◌, ◌^◌, drop, length, slice_index_or}
use Rattle.ic_in_place.specs.Summing.{sum_from}
use Rattle.ic_in_place.proofs.counting.sum_by_rule.Given as goal

abbrev pub invariant-loop-plan : goal.invariant-loop-plan
invariant-loop-plan l = record {
  len : length l.by_rule.items ≡ length l.initial.by_rule.items;
  rest : (r : ℕ) → r < length l.by_rule.items → sum_from r l.numbers l.counts 0 < 2 ^ 64
      → sum_from r l.numbers l.counts 0 ≡ slice_index_or l.by_rule.items r 0 + sum_from r (drop l.plan l.numbers) l.counts l.plan;
}
