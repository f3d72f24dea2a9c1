use Rattle.std.proofs.Common.{◌≡◌, ℕ, ◌+◌, ◌<◌, ◌≤◌, length}
use Rattle.std.specs.Prelude.{slice_index_or}
use Rattle.ic_keeping.proofs.counts.add_all.Given as goal

-- so many sums stand, and the other counts are as they were
abbrev pub invariant-loop-i : goal.invariant-loop-i
invariant-loop-i l = record {
  long : length l.counts ≡ length l.fn.counts;
  sums : (k : ℕ) → k < l.i → slice_index_or l.counts k 0 ≡ slice_index_or l.fn.counts k 0 + slice_index_or l.more k 0;
  left : (k : ℕ) → l.i ≤ k → slice_index_or l.counts k 0 ≡ slice_index_or l.fn.counts k 0;
}
