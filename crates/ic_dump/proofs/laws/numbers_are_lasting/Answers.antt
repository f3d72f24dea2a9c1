use Rattle.std.proofs.Common.{ℕ, List, [], refl, arith, Contains}
use Rattle.ic_dump.specs.declared.fault.DumpFault.{DumpFault}
use Rattle.ic_dump.specs.declared.fault.DumpFault.TheVariants.{NoJob, TooLong, Memory, Write}
use Rattle.ic_dump.specs.Dumping.{all_dump_faults}
use Rattle.ic_dump.proofs.laws.numbers_are_lasting.Goals as goal

all : (fault : DumpFault) → (name : List ℕ) × Contains (all_dump_faults name) fault
all (NoJob name) = (name, (0, omega arith, refl))
all (TooLong name) = (name, (1, omega arith, refl))
all Memory = ([], (2, omega arith, refl))
all Write = ([], (3, omega arith, refl))

pub returns-clause-all : goal.returns-clause-all
returns-clause-all c = all
