use Rattle.std.proofs.Common.{List, sym, subst}
use Rattle.ic_jobs.specs.Job.{JobParts}
use Rattle.ic_jobs.specs.Table.{IsTable}
use Rattle.ic_jobs.proofs.table.Table.awaits.Goals as goal

pub awaited_place-requires : goal.awaited_place-requires
awaited_place-requires c = subst (λ (l : List JobParts). IsTable l) (sym c.deref.ensures.value) c.self.invariant.0
