use Rattle.std.proofs.Common.{Contains, refl, arith}
use Rattle.ic_inspect.specs.declared.fault.InspectFault.{InspectFault}
use Rattle.ic_inspect.specs.declared.fault.InspectFault.TheVariants.{Read, Changed, Memory, Write}
use Rattle.ic_inspect.specs.Seeing.{all_inspect_faults}
use Rattle.ic_inspect.proofs.laws.numbers_are_lasting.Goals as goal

all : (fault : InspectFault) → Contains all_inspect_faults fault
all Read = (0, omega arith, refl)
all Changed = (1, omega arith, refl)
all Memory = (2, omega arith, refl)
all Write = (3, omega arith, refl)

pub returns-clause-all : goal.returns-clause-all
returns-clause-all c = all
