use Rattle.std.proofs.Common.{refl, arith, Contains}
use Rattle.ic_book.specs.declared.fault.BookFault.{BookFault}
use Rattle.ic_book.specs.declared.fault.BookFault.TheVariants.{Broken}
use Rattle.ic_pool.specs.declared.fault.PoolFault.{PoolFault}
use Rattle.ic_pool.specs.declared.fault.PoolFault.TheVariants.{Lost}
use Rattle.ic_serving.specs.declared.fault.ServeFault.{ServeFault}
use Rattle.ic_serving.specs.declared.fault.ServeFault.TheVariants.{Read, Write, TooManyLines, Book, Pool, LongLine, Memory}
use Rattle.ic_serving.specs.Faults.{all_serve_faults}
use Rattle.ic_serving.proofs.laws.numbers_are_lasting.Goals as goal

all : (fault : ServeFault) → (of_book : BookFault) × (of_pool : PoolFault) × Contains (all_serve_faults of_book of_pool) fault
all Read = (Broken, Lost, (0, omega arith, refl))
all Write = (Broken, Lost, (1, omega arith, refl))
all TooManyLines = (Broken, Lost, (2, omega arith, refl))
all (Book of_book) = (of_book, Lost, (3, omega arith, refl))
all (Pool of_pool) = (Broken, of_pool, (4, omega arith, refl))
all LongLine = (Broken, Lost, (5, omega arith, refl))
all Memory = (Broken, Lost, (6, omega arith, refl))

pub returns-clause-all : goal.returns-clause-all
returns-clause-all c = all
