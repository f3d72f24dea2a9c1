-- What a call at a desk comes to. Which book is under the lock at that moment nobody knows: there is
-- one that the call found and one that it left, and the book's own call says this of the two.
use Rattle.std.specs.Prelude.{◌≡◌, ◌≢◌, ◌⊎◌, ◌↔◌, ◌+◌, ◌-◌, ◌^◌, ◌<◌, ◌≤◌, ◌++◌, ◌∷◌, [], ℕ, List, Option, false, length, Result, IsTrue, IsErrOf, IfOk, IfErr, OnOk}
use Rattle.ic_disk.specs.declared.disk.Disk.{Ghosts}
use Rattle.ic_disk.specs.Images.{Within}
use Rattle.ic_frames.specs.Fields.{IsMade}
use Rattle.ic_term.specs.Configuration.{Configuration}
use Rattle.ic_rules.specs.RuleSet.{Rules}
use Rattle.ic_flights.specs.Flight.{FlightParts}
use Rattle.ic_jobs.specs.declared.command.Command.{Command}
use Rattle.ic_jobs.specs.declared.event.Entry.{Entry}
use Rattle.ic_jobs.specs.declared.landed.Landed.{Landed}
use Rattle.ic_jobs.specs.declared.reply.Reply.{Reply}
use Rattle.ic_jobs.specs.Landing.{due, Awaits}
use Rattle.ic_book.specs.declared.book.Book.{Book}
use Rattle.ic_book.specs.declared.fault.BookFault.{BookFault}
use Rattle.ic_book.specs.declared.fault.BookFault.TheVariants.{Broken, Worn, Memory}
use Rattle.ic_book.specs.declared.limits.TheConstants.{MAX_ENTRIES}
use Rattle.ic_book.specs.Book.{start_of, log_of, table_of, kept_of, keeper_of, disk_of, is_broken, number_of}
use Rattle.ic_book.specs.Calls.{BreaksOrStays, RefusesRound, TakesRound, TellsBroken, TellsFull}
use Rattle.ic_book.specs.Crashes.{LeavesKeptOrAll}
use Rattle.ic_book.specs.Entries.{leaves_table, round_entry}
use Rattle.ic_book.specs.Moves.{round_move}
use Rattle.ic_book.specs.Server.{Step, StepsByCommand, up}

-- A command came to some book: it was answered and kept, or the disk failed at it, or it was
-- refused and nothing came. A crash in it leaves the table that was kept, or the one after it. It
-- makes at most six calls to the disk, and none where all was kept and the table stays.
pub record IsCommanded {D : Type 0} (ghosts : Ghosts D) (who : ℕ) (command : Command)
    (result : Result Reply BookFault) : Type 0 where
  pub old : Book D ghosts
  pub new : Book D ghosts
  pub step : StepsByCommand who command result old new
  pub fault : BreaksOrStays result old new
  pub full : TellsFull result old
  pub worn : IsErrOf result Worn ↔ ((is_broken old ≡ false)
      × (length (log_of old) < MAX_ENTRIES) × (number_of old ≡ 2 ^ 64 - 1))
  pub start : start_of new ≡ start_of old
  pub ready : OnOk result (is_broken new ≡ false)
  pub crash : LeavesKeptOrAll (log_of new) old new
  pub made_now : IsTrue (ghosts.keeps (disk_of old)) → IfOk result (λ answer.
      leaves_table answer ≡ false → Within (ghosts.image (disk_of new)) IsMade)
  pub calls : ghosts.clock (disk_of new) ≤ ghosts.clock (disk_of old) + 6
  pub idle : kept_of old ≡ length (log_of old) → IfOk result (λ answer.
      IsTrue (leaves_table answer) → keeper_of new ≡ keeper_of old)

-- This was due of some book, or that book was broken, or memory ran out.
pub record IsTaken {D : Type 0} (ghosts : Ghosts D) (after : ℕ)
    (result : Result (Option FlightParts) BookFault) : Type 0 where
  pub book : Book D ghosts
  pub broken : TellsBroken result book
  pub memory : IfErr result (λ fault. fault ≢ Broken → fault ≡ Memory)
  pub due : IfOk result (λ flight. flight ≡ due (table_of book) after)

-- A round, or the halt of a job that can't make one, came to some book. It is at the end of the log
-- where the job was as it is said here; else it was stale and nothing came.
pub record IsLanded {D : Type 0} (ghosts : Ghosts D) (name : List ℕ) (rules : Rules)
    (config : Configuration) (rounds : ℕ) (reply : Reply) (result : Result Landed BookFault)
    : Type 0 where
  pub old : Book D ghosts
  pub new : Book D ghosts
  pub step : Step (round_move name reply result) (up old) (up new)
  pub fault : RefusesRound result old new
  pub round : TakesRound (round_entry name reply)
      (Awaits (table_of old) name rules config rounds) result old new
  pub crash : LeavesKeptOrAll (log_of new) old new

-- the log stays as it is, or one entry comes
abbrev pub AddsOneAtMost : (old new : List Entry) → Type 0
AddsOneAtMost old new = (new ≡ old) ⊎ ((e : Entry) × (new ≡ old ++ e ∷ []))
