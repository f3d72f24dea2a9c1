use Rattle.std.proofs.Common.{◌≡◌, ◌+◌, ◌≤◌, drop, length}
use Rattle.ic_batch.specs.Way.{missing}
use Rattle.ic_batch.proofs.submitting.count_missing.Given as goal

-- those so far are counted
abbrev pub invariant-loop-new : goal.invariant-loop-new
invariant-loop-new l = record {
  counted : l.count + length (missing l.table (drop l.new-index l.jobs)) ≡ length (missing l.table l.jobs);
  few : l.count ≤ l.new-index;
}
