use Rattle.std.proofs.Common.{◌≡◌, refl, arith}
use Rattle.std.specs.List.{Contains}
use Rattle.ic_pool.specs.declared.fault.PoolFault.{PoolFault}
use Rattle.ic_pool.specs.declared.fault.PoolFault.TheVariants.{NoWorkers, Overgrown, NamesOut, NoThread, Memory, Lost, Stranger, RoundsOut}
use Rattle.ic_pool.specs.PoolFault.{all_faults}
use Rattle.ic_pool.proofs.laws.numbers_are_lasting.Goals as goal

each : (fault : PoolFault) → Contains all_faults fault
each NoWorkers = (0, omega arith, refl)
each Overgrown = (1, omega arith, refl)
each NamesOut = (2, omega arith, refl)
each NoThread = (3, omega arith, refl)
each Memory = (4, omega arith, refl)
each Lost = (5, omega arith, refl)
each Stranger = (6, omega arith, refl)
each RoundsOut = (7, omega arith, refl)

pub returns : goal.returns
returns c = record { all = each; numbers = refl }
