use Rattle.std.proofs.Common.{ap}
use Rattle.ic_slots.specs.Keeper as keeper
use Rattle.ic_book.proofs.laws.unchanged_is_all.Goals as goal

pub returns-clause-parts : goal.returns-clause-parts
returns-clause-parts g c = (
  λ is. (is.same_start, is.same_log, is.same_table, is.same_kept, is.same_keeper),
  λ all. record { same_start = all.0; same_log = all.1; same_table = all.2; same_kept = all.3; same_keeper = all.4 },
)

pub returns-clause-disk : goal.returns-clause-disk
returns-clause-disk g c is = ap keeper.disk_of is.same_keeper
