use Rattle.std.proofs.Common.{false, ◌≡◌, ◌≢◌, ℕ, Bool, Err, refl}
use Rattle.ic_book.specs.declared.fault.BookFault.TheVariants as book
use Rattle.ic_serving.specs.declared.fault.ServeFault.{ServeFault}
use Rattle.ic_serving.specs.declared.fault.ServeFault.TheVariants.{Read, Write, TooManyLines, Book, Pool, LongLine, Memory}
use Rattle.ic_serving.specs.Faults.{CountsServe, StaysReady}
use Rattle.ic_serving_laws.proofs.laws.causes_say.Goals as goal

counts_none : (fault : ServeFault) (old new : ℕ) → fault ≢ Book book.Device
    → CountsServe {T = Unit {0}} (Err fault) old new → new ≡ old
counts_none Read old new other is = is
counts_none Write old new other is = is
counts_none TooManyLines old new other is = is
counts_none (Book book.Broken) old new other is = is
counts_none (Book book.LogFull) old new other is = is
counts_none (Book book.Worn) old new other is = is
counts_none (Book book.Memory) old new other is = is
counts_none (Book book.Device) old new other is = absurd (other refl)
counts_none (Pool fault) old new other is = is
counts_none LongLine old new other is = is
counts_none Memory old new other is = is

not_broken : (fault : ServeFault) (broken : Bool) (number : ℕ) → fault ≢ Book book.Device
    → StaysReady fault broken number → broken ≡ false
not_broken Read broken number other is = is
not_broken Write broken number other is = is
not_broken TooManyLines broken number other is = is
not_broken (Book book.Broken) broken number other is = absurd is
not_broken (Book book.LogFull) broken number other is = is
not_broken (Book book.Worn) broken number other is = is.0
not_broken (Book book.Memory) broken number other is = is
not_broken (Book book.Device) broken number other is = absurd (other refl)
not_broken (Pool fault) broken number other is = is
not_broken LongLine broken number other is = is
not_broken Memory broken number other is = is

pub returns-clause-others : goal.returns-clause-others
returns-clause-others c = counts_none

pub returns-clause-stays : goal.returns-clause-stays
returns-clause-stays c = not_broken
