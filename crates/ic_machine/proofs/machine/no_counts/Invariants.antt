use Rattle.std.proofs.Common.{◌≡◌, map, take, length, vec_len, vec_capacity}
use Rattle.ic_machine.proofs.machine.no_counts.Given as goal

abbrev pub invariant-loop-plan : goal.invariant-loop-plan
invariant-loop-plan l = record {
  zeros : l.counts.items ≡ map (λ plan. 0) (take l.plan-index l.plans);
  len : vec_len l.counts ≡ l.plan-index;
  capacity : vec_capacity l.counts ≡ length l.plans;
}
