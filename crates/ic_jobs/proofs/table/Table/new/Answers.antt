use Rattle.ic_jobs.proofs.PlaceLemmas.{IsTable-none}
use Rattle.ic_jobs.proofs.table.Table.new.Goals as goal

pub invariant_of-result : goal.invariant_of-result
invariant_of-result c = (IsTable-none _ c.new.ensures.items, tt)
