-- A call over a book, after others that went well, and its fault.
use Rattle.std.proofs.Common.{◌≡◌, ◌≢◌, false, ℕ, Bool, Result, Ok, Err, refl, subst}
use Rattle.std.specs.Result.{IsErrAnd}
use Rattle.ic_disk.specs.declared.disk.Disk.{Ghosts}
use Rattle.ic_book.specs.declared.book.Book.{Book}
use Rattle.ic_book.specs.Book.{disk_of, is_broken}
use Rattle.ic_book.specs.declared.fault.BookFault.TheVariants as book
use Rattle.ic_serving.specs.declared.fault.ServeFault.{ServeFault}
use Rattle.ic_serving.specs.declared.fault.ServeFault.TheVariants.{Read, Write, TooManyLines, Book as by_book, Pool, LongLine, Memory}
use Rattle.ic_serving.specs.Faults.{ComesInLine, CountsServe, StaysReady}
use Rattle.ic_serving.specs.Moments.{FaultLeaves}

-- what is counted is said of the fault alone
counts_as : (T U : Type 0) (fault : ServeFault) (old new : ℕ) → CountsServe {T = T} (Err fault) old new → CountsServe {T = U} (Err fault) old new
counts_as T U Read old new is = is
counts_as T U _ old new is = is

pub fault_after : {T U D : Type 0} {ghosts : Ghosts D} (r : Result T ServeFault) (fault : ServeFault) → IsErrAnd r (λ x. x ≡ fault) → (first book new : Book D ghosts)
    → ghosts.failures (disk_of book) ≡ ghosts.failures (disk_of first) → (is_broken first ≡ false → is_broken book ≡ false)
    → FaultLeaves {T = U} ComesInLine (Err fault) book new → FaultLeaves ComesInLine r first new
fault_after (Ok v) fault is first book new counted ready left = absurd is
fault_after {T} {U} {D} {ghosts} (Err e) fault is first book new counted ready left =
    let same : e ≡ fault = is in
    let counts : CountsServe {T = T} (Err fault) (ghosts.failures (disk_of first)) (ghosts.failures (disk_of new)) =
    subst (λ n. CountsServe {T = T} (Err fault) n (ghosts.failures (disk_of new))) counted (counts_as U T fault (ghosts.failures (disk_of book)) (ghosts.failures (disk_of new)) left.counted) in
    rw same (record { causes = left.causes; counted = counts; ready = λ whole. tt; breaks = λ whole. left.breaks (ready whole) })

-- where a fault isn't `Device`, no failure is counted
pub counts_none : (fault : ServeFault) (old new : ℕ) → fault ≢ by_book book.Device → CountsServe {T = Unit {0}} (Err fault) old new → new ≡ old
counts_none Read old new other is = is
counts_none Write old new other is = is
counts_none TooManyLines old new other is = is
counts_none (by_book book.Broken) old new other is = is
counts_none (by_book book.LogFull) old new other is = is
counts_none (by_book book.Worn) old new other is = is
counts_none (by_book book.Memory) old new other is = is
counts_none (by_book book.Device) old new other is = absurd (other refl)
counts_none (Pool fault) old new other is = is
counts_none LongLine old new other is = is
counts_none Memory old new other is = is

-- and no book is broken
pub breaks_none : (fault : ServeFault) (broken : Bool) (number : ℕ) → fault ≢ by_book book.Device → StaysReady fault broken number → broken ≡ false
breaks_none Read broken number other is = is
breaks_none Write broken number other is = is
breaks_none TooManyLines broken number other is = is
breaks_none (by_book book.Broken) broken number other is = absurd is
breaks_none (by_book book.LogFull) broken number other is = is
breaks_none (by_book book.Worn) broken number other is = is.0
breaks_none (by_book book.Memory) broken number other is = is
breaks_none (by_book book.Device) broken number other is = absurd (other refl)
breaks_none (Pool fault) broken number other is = is
breaks_none LongLine broken number other is = is
breaks_none Memory broken number other is = is
