use Rattle.std.proofs.Common.{◌≡◌, ℕ, slice_index_or, vec_len, vec_capacity}
use Rattle.ic_in_place.proofs.counting.no_counts.Given as goal

abbrev pub invariant-loop : goal.invariant-loop
invariant-loop l = record {
  len : vec_len l.counts ≡ l.counter;
  capacity : vec_capacity l.counts ≡ l.rules;
  zeros : (r : ℕ) → slice_index_or l.counts.items r 0 ≡ 0;
}
