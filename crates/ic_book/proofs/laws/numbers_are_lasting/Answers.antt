use Rattle.std.proofs.Common.{refl, arith}
use Rattle.std.specs.Prelude.{Contains}
use Rattle.ic_book.specs.declared.fault.BookFault.{BookFault}
use Rattle.ic_book.specs.declared.fault.BookFault.TheVariants.{Broken, LogFull, Worn, Memory, Device}
use Rattle.ic_book.specs.Refusals.{all_book_faults}
use Rattle.ic_book.proofs.laws.numbers_are_lasting.Goals as goal

listed : (fault : BookFault) → Contains all_book_faults fault
listed Broken = (0, omega arith, refl)
listed LogFull = (1, omega arith, refl)
listed Worn = (2, omega arith, refl)
listed Memory = (3, omega arith, refl)
listed Device = (4, omega arith, refl)

pub returns-clause-all : goal.returns-clause-all
returns-clause-all c = listed

pub returns-clause-numbers : goal.returns-clause-numbers
returns-clause-numbers c = refl
