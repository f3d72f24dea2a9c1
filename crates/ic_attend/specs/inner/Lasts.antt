-- For private functions: the last entry that isn't kept.
use Rattle.std.specs.Prelude.{◌≡◌, ◌⊎◌, List, Some, IsTrue, IsSomeAnd, slice_get}
use Rattle.ic_jobs.specs.declared.event.Entry.{Entry}
use Rattle.ic_jobs.specs.declared.event.Event.TheVariants.{Command as by_command}
use Rattle.ic_book.specs.declared.fault.BookFault.TheVariants.{Device}
use Rattle.ic_book.specs.Entries.{is_round}
use Rattle.ic_attend.specs.declared.attended.ClientRun.{ClientRun}

-- it is a round, or the command at which a failing disk has ended its client
abbrev pub MayBeLast : List ClientRun → Entry → Type 0
MayBeLast runs e = IsTrue (is_round e.event) ⊎ ((run : ClientRun) × (slice_get runs e.who ≡ Some run)
    × (run.end ≡ Some Device) × IsSomeAnd run.refused (λ c. e.event ≡ by_command c))
