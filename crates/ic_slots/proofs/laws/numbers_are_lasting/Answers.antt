use Rattle.std.proofs.Common.{Contains, refl, arith}
use Rattle.ic_slots.specs.declared.fault.CreateFault.{CreateFault}
use Rattle.ic_slots.specs.declared.fault.CreateFault.TheVariants.{Device, Memory}
use Rattle.ic_slots.specs.Numbers.{all_create_faults}
use Rattle.ic_slots.proofs.laws.numbers_are_lasting.Goals as goal

all : (fault : CreateFault) → Contains all_create_faults fault
all Device = (0, omega arith, refl)
all Memory = (1, omega arith, refl)

pub returns-clause-all : goal.returns-clause-all
returns-clause-all c = all
