use Rattle.std.proofs.Common.{◌≡◌, ◌++◌, drop}
use Rattle.std.specs.List.{flat_map}
use Rattle.ic_batch.specs.Way.{fetched}
use Rattle.ic_batch.proofs.telling.told.Given as goal

-- the lines of those so far are told
abbrev pub invariant-loop-new : goal.invariant-loop-new
invariant-loop-new l = record {
  same : l.copy ≡ l.table;
  text : l.text.items ++ flat_map (fetched l.table) (drop l.new-index l.jobs) ≡ flat_map (fetched l.table) l.jobs;
}
