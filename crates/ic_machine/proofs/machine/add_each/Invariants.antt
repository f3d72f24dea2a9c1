use Rattle.std.proofs.Common.{◌≡◌, ℕ, ◌+◌, ◌<◌, ◌≤◌, length, slice_index_or}
use Rattle.ic_machine.proofs.machine.add_each.Given as goal

abbrev pub invariant-loop-place : goal.invariant-loop-place
invariant-loop-place l = record {
  added : (i : ℕ) → i < l.place → slice_index_or l.counts.items i 0
      ≡ slice_index_or l.initial.counts.items i 0 + slice_index_or l.more i 0;
  left : (i : ℕ) → l.place ≤ i → slice_index_or l.counts.items i 0 ≡ slice_index_or l.initial.counts.items i 0;
  len : length l.counts.items ≡ length l.initial.counts.items;
}
