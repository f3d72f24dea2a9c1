use Rattle.std.proofs.Common.{◌≡◌, ◌≢◌, ℕ, true, false, refl}
use Rattle.std.specs.Prelude.{IsTrue}
use Rattle.ic_disk.specs.declared.disk.Disk.{Ghosts}
use Rattle.ic_pool.specs.PoolFault.{is_of_flight}
use Rattle.ic_pool.specs.declared.fault.PoolFault.{PoolFault}
use Rattle.ic_pool.specs.declared.fault.PoolFault.TheVariants as of_pool
use Rattle.ic_book.specs.declared.book.Book.{Book as TheBook}
use Rattle.ic_book.specs.declared.fault.BookFault.TheVariants.{Worn, Device}
use Rattle.ic_attend.specs.Ends.{EndMayBe, EndTells}
use Rattle.ic_attend.specs.declared.attended.RunnerEnd.{RunnerEnd}
use Rattle.ic_attend.specs.declared.attended.RunnerEnd.TheVariants.{Turns, Book as by_book, Pool as by_pool}
use Rattle.ic_attend.proofs.laws.runners_end_so.Goals as goal

of_flight : (turns workers : ℕ) (fault : PoolFault) → IsTrue (is_of_flight fault) → EndMayBe turns workers (by_pool fault) → ⊥
of_flight turns workers of_pool.Overgrown of may = may
of_flight turns workers of_pool.NamesOut of may = may
of_flight turns workers of_pool.RoundsOut of may = may
of_flight turns workers _ of may = absurd (let no : false ≡ true = of in cc)

told_end : {D : Type 0} {ghosts : Ghosts D} (turns workers : ℕ) (book : TheBook D ghosts) (end : RunnerEnd) → ((taken : ℕ) → end ≢ Turns taken) → EndTells workers book end → EndMayBe turns workers end
told_end turns workers book (by_book Worn) other told = told
told_end turns workers book (by_book Device) other told = told
told_end turns workers book (by_pool fault) other told = told
told_end turns workers book (Turns taken) other told = absurd (other taken refl)
told_end turns workers book _ other told = tt

pub returns-clause-book : goal.returns-clause-book
returns-clause-book g c = λ turns workers. (λ may. may, λ may. may)

pub returns-clause-flight : goal.returns-clause-flight
returns-clause-flight g c = of_flight

pub returns-clause-workers : goal.returns-clause-workers
returns-clause-workers g c = λ turns workers may. may

pub returns-clause-turns : goal.returns-clause-turns
returns-clause-turns g c = λ turns workers taken. (λ may. may, λ same. same)

pub returns-clause-told : goal.returns-clause-told
returns-clause-told g c = λ turns workers end other told. told_end turns workers c.args.attended.now.book end other told
