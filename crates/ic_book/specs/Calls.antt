-- What the calls of a book leave: where a call is refused, where a round comes and where all is kept.
-- This project's choice.
use Rattle.std.specs.Prelude.{◌≡◌, ◌≢◌, ◌↔◌, ◌+◌, ◌-◌, ◌^◌, ◌<◌, ◌≤◌, true, false, Bool, List, ℕ, length, Result, IsTrue, IsErr, IsErrOf, IfOk, IfErr, OnOk, OnErr}
use Rattle.ic_disk.specs.declared.disk.Disk.{Ghosts}
use Rattle.ic_disk.specs.Images.{Within}
use Rattle.ic_jobs.specs.declared.event.Entry.{Entry}
use Rattle.ic_jobs.specs.declared.landed.Landed.{Landed}
use Rattle.ic_jobs.specs.declared.landed.Landed.TheVariants.{Moved, Stale}
use Rattle.ic_jobs.specs.declared.reply.Reply.TheVariants as reply
use Rattle.ic_frames.specs.Fields.{IsMade}
use Rattle.ic_slots.specs.Held.{IsHeld, the_table}
use Rattle.ic_book.specs.declared.book.Book.{Book}
use Rattle.ic_book.specs.declared.fault.BookFault.{BookFault}
use Rattle.ic_book.specs.declared.fault.BookFault.TheVariants.{Broken, LogFull, Worn, Memory, Device}
use Rattle.ic_book.specs.declared.limits.TheConstants.{MAX_ENTRIES}
use Rattle.ic_book.specs.Book.{start_of, log_of, table_of, kept_of, keeper_of, disk_of, is_broken, number_of, IsUnchanged}
use Rattle.ic_book.specs.Entries.{Adds, AddsRound}
use Rattle.ic_book.specs.Refusals.{CountsBook}

-- ---- refusals

-- first, an earlier call to the disk has failed
abbrev pub TellsBroken : {T D : Type 0} {ghosts : Ghosts D}
    → Result T BookFault → Book D ghosts → Type 0
TellsBroken result book = IsErrOf result Broken ↔ (is_broken book ≡ true)

-- then, the history is full
abbrev pub TellsFull : {T D : Type 0} {ghosts : Ghosts D}
    → Result T BookFault → Book D ghosts → Type 0
TellsFull result book =
    IsErrOf result LogFull ↔ ((is_broken book ≡ false) × (length (log_of book) ≡ MAX_ENTRIES))

-- then, something is to be kept and the numbers of the slots are used up
abbrev pub TellsWorn : {T D : Type 0} {ghosts : Ghosts D}
    → Result T BookFault → Book D ghosts → Type 0
TellsWorn result book = IsErrOf result Worn
    ↔ ((is_broken book ≡ false) × (kept_of book < length (log_of book))
    × (number_of book ≡ 2 ^ 64 - 1))

-- A call to the disk that fails is counted and breaks the book. Any other refusal leaves the book
-- as it was.
pub record BreaksOrStays {T D : Type 0} {ghosts : Ghosts D} (result : Result T BookFault)
    (old new : Book D ghosts) : Type 0 where
  pub broken : TellsBroken result old
  pub counted : CountsBook result
      (ghosts.failures (disk_of old)) (ghosts.failures (disk_of new))
  pub breaks : IsErrOf result Device → is_broken new ≡ true
  pub refused : IsErr result → ¬ IsErrOf result Device → IsUnchanged old new

-- ---- rounds

-- A round is refused, in this order: the book is broken, the history is full, memory ran out. Then
-- nothing has changed.
pub record RefusesRound {D : Type 0} {ghosts : Ghosts D} (result : Result Landed BookFault)
    (old new : Book D ghosts) : Type 0 where
  pub broken : TellsBroken result old
  pub full : TellsFull result old
  pub memory : IfErr result (λ fault. fault ≢ Broken → fault ≢ LogFull → fault ≡ Memory)
  pub refused : IsErr result → IsUnchanged old new

-- A round that was expected is at the end of the log, as this entry. Any other is stale, and
-- nothing has changed. What is kept stays, and no call is made to the disk.
pub record TakesRound {D : Type 0} {ghosts : Ghosts D} (entry : Entry) (expected : Type 0)
    (result : Result Landed BookFault) (old new : Book D ghosts) : Type 0 where
  pub moved : IfOk result (λ landed. landed ≡ Moved
      → Adds entry (log_of old) (log_of new) (table_of old) (table_of new))
  pub awaited : IfOk result (λ landed. landed ≡ Moved → expected)
  pub stale : IfOk result (λ landed. landed ≡ Stale → ¬ expected)
  pub wanted : IsErrOf result Memory → expected
  pub unchanged : IfOk result (λ landed. landed ≡ Stale → IsUnchanged old new)
  pub start : start_of new ≡ start_of old
  pub kept : kept_of new ≡ kept_of old
  pub keeper : keeper_of new ≡ keeper_of old

-- A round that was made in its job's own lists is at the end of the log. Where none was made,
-- nothing has changed. What is kept stays, and no call is made to the disk.
pub record MakesOwnRound {D : Type 0} {ghosts : Ghosts D} (name : List ℕ)
    (result : Result Bool BookFault) (old new : Book D ghosts) : Type 0 where
  pub made : IfOk result (λ made. IsTrue made
      → AddsRound name reply.Moved (log_of old) (log_of new) (table_of old) (table_of new))
  pub unmade : IfOk result (λ made. made ≡ false → IsUnchanged old new)
  pub start : start_of new ≡ start_of old
  pub kept : kept_of new ≡ kept_of old
  pub keeper : keeper_of new ≡ keeper_of old

-- ---- a keep

-- A keep makes at most six calls to the disk, and none where all was kept before. At Ok the book
-- isn't broken and reads give the table; a disk to which it was written is made. At Err nothing more
-- is kept. That all is kept at Ok is said by the move of a keep.
pub record KeepsAll {T D : Type 0} {ghosts : Ghosts D} (result : Result T BookFault)
    (old new : Book D ghosts) : Type 0 where
  pub table : table_of new ≡ table_of old
  pub all : OnOk result (kept_of new ≡ length (log_of new))
  pub ready : OnOk result (is_broken new ≡ false)
  pub unkept : OnErr result (kept_of new ≡ kept_of old)
  pub made_now : IsTrue (ghosts.keeps (disk_of old)) → kept_of old < length (log_of old)
      → OnOk result (Within (ghosts.image (disk_of new)) IsMade)
  pub held : IsTrue (ghosts.keeps (disk_of old))
      → OnOk result (IsHeld (the_table (table_of new)) (ghosts.content (disk_of new)))
  pub calls : ghosts.clock (disk_of new) ≤ ghosts.clock (disk_of old) + 6
  pub idle : kept_of old ≡ length (log_of old) → keeper_of new ≡ keeper_of old
