-- What a serving speaks of in a book.
use Rattle.std.specs.Prelude.{◌≡◌, ◌⊎◌, ◌≤◌, ℕ, ◌-◌, List, [], ◌∷◌, Some, length}
use Rattle.ic_disk.specs.declared.disk.Disk.{Ghosts}
use Rattle.ic_flights.specs.Flight.{FlightParts}
use Rattle.ic_jobs.specs.Job.{JobParts}
use Rattle.ic_jobs.specs.declared.event.Event.{Event}
use Rattle.ic_jobs.specs.declared.event.Event.TheVariants.{Round}
use Rattle.ic_jobs.specs.History.{table_after}
use Rattle.ic_jobs.specs.Landing.{due}
use Rattle.ic_book.specs.declared.book.Book.{Book}
use Rattle.ic_book.specs.Book.{start_of, log_of, table_of, kept_of}
use Rattle.ic_book.specs.Left.{table_kept}
use Rattle.ic_book.specs.Weight.{weight_of}
use Rattle.ic_serving.specs.Parts.{IsPart, IsKeptWithin}
use Rattle.ic_serving.specs.Grown.{IsSamePage, BeginsPage, GoesOn, GoesOnWithin, HasRoom, HasSpare}

-- the table that was kept last
abbrev pub last_kept : {D : Type 0} {ghosts : Ghosts D} → Book D ghosts → List JobParts
last_kept book = table_kept (start_of book) (log_of book) (kept_of book)

-- everything in its history is kept
abbrev pub IsAllKept : {D : Type 0} {ghosts : Ghosts D} → Book D ghosts → Type 0
IsAllKept book = kept_of book ≡ length (log_of book)

-- how many entries of its history aren't kept
abbrev pub unkept_of : {D : Type 0} {ghosts : Ghosts D} → Book D ghosts → ℕ
unkept_of book = length (log_of book) - kept_of book

-- ---- of one call

-- the table stays, and either the table that was kept last stays too, or it is kept now
pub record StaysPut {D : Type 0} {ghosts : Ghosts D} (limit : ℕ) (old new : Book D ghosts) : Type 0 where
  pub table : table_of new ≡ table_of old
  pub kept : (last_kept new ≡ last_kept old) ⊎ (last_kept new ≡ table_of old)
  pub page : HasSpare limit old → IsSamePage old new

-- one event comes to the table, and it isn't kept; what was there before may be kept now
pub record Advances {D : Type 0} {ghosts : Ghosts D} (e : Event) (old new : Book D ghosts) : Type 0 where
  pub table : table_of new ≡ table_after (table_of old) e
  pub kept : (last_kept new ≡ last_kept old) ⊎ (last_kept new ≡ table_of old)

-- a round is made, or its job is halted: that of the job that is due, whose place this is
pub record MakesRound {D : Type 0} {ghosts : Ghosts D} (limit after place : ℕ) (old new : Book D ghosts) : Type 0 where
  pub flight : FlightParts
  pub is_due : due (table_of old) after ≡ Some flight
  pub here : place ≡ flight.place
  pub advances : Advances (Round flight.name) old new
  pub page : HasSpare limit old → GoesOn (Round flight.name ∷ []) old new
  pub turned : limit ≤ weight_of (log_of old) → BeginsPage (Round flight.name ∷ []) old new

-- ---- of a line that is begun

-- some events were begun: a front of them has come to the table and to its page, and what was kept
-- before or a front of them is kept
pub record Begins {D : Type 0} {ghosts : Ghosts D} (limit : ℕ) (es : List Event) (old new : Book D ghosts) : Type 0 where
  pub table : IsPart (table_of old) es (table_of new)
  pub kept : IsKeptWithin (table_of old) (last_kept old) es (last_kept new)
  pub page : HasRoom limit es old → GoesOnWithin es old new
