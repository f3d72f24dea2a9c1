use Rattle.std.proofs.Common.{ℕ, Contains, refl, arith}
use Rattle.ic_text.specs.declared.fault.TextFault.{TextFault}
use Rattle.ic_text.specs.declared.fault.TextFault.TheVariants.{Syntax, Limit, Arity, NameCount, Name, Twice, Lopsided, Memory}
use Rattle.ic_text.specs.FaultNumber.{all_faults}
use Rattle.ic_text.proofs.laws.numbers_are_lasting.Goals as goal

all : (fault : TextFault) → (rule : ℕ) × (name : ℕ) × Contains (all_faults rule name) fault
all Syntax = (0, 0, (0, omega arith, refl))
all Limit = (0, 0, (1, omega arith, refl))
all Arity = (0, 0, (2, omega arith, refl))
all (NameCount i) = (i, 0, (3, omega arith, refl))
all (Name n) = (0, n, (4, omega arith, refl))
all (Twice i) = (i, 0, (5, omega arith, refl))
all (Lopsided i) = (i, 0, (6, omega arith, refl))
all Memory = (0, 0, (7, omega arith, refl))

pub returns-clause-all : goal.returns-clause-all
returns-clause-all c = all
