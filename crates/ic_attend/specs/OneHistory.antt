-- One legal history of clients and runners. This project's choice.
use Rattle.std.specs.Prelude.{◌≡◌, ℕ, List, length, take, drop}
use Rattle.std.specs.List.{All, AllZip}
use Rattle.ic_disk.specs.declared.disk.Disk.{Ghosts}
use Rattle.ic_jobs.specs.declared.command.Command.{Command}
use Rattle.ic_jobs.specs.declared.event.Entry.{Entry}
use Rattle.ic_jobs.specs.Job.{JobParts}
use Rattle.ic_jobs.specs.History.{replay, IsLegal}
use Rattle.ic_book.specs.Book.{start_of, log_of, table_of, kept_of}
use Rattle.ic_attend.specs.declared.attended.Attended.{Attended}
use Rattle.ic_attend.specs.Parts.{AreOfClients}
use Rattle.ic_attend.specs.Clients.{AreParts, FailuresStandLast, KeepsTo, MayStandAfter}
use Rattle.ic_attend.specs.Runners.{EndHolds}

-- the entries that are kept, and those after them
abbrev pub kept_log : {D : Type 0} {ghosts : Ghosts D} → Attended D ghosts → List Entry
kept_log a = take (kept_of a.book) (log_of a.book)

abbrev pub unkept_log : {D : Type 0} {ghosts : Ghosts D} → Attended D ghosts → List Entry
unkept_log a = drop (kept_of a.book) (log_of a.book)

-- The log goes on from the opening table, and tells of these clients and these runners: each
-- command is a client's, each answer is kept, and each end is as the book has it.
pub record Agrees {D : Type 0} {ghosts : Ghosts D} (opening : List JobParts) (turns : ℕ)
    (a : Attended D ghosts) : Type 0 where
  pub start : start_of a.book ≡ opening
  pub clients : AreOfClients (length a.answers.items) (log_of a.book)
  pub answers : AreParts (kept_log a) a.answers.items
  pub after : MayStandAfter a.answers.items (unkept_log a)
  pub failed : FailuresStandLast a.answers.items (unkept_log a)
  pub ends : All (EndHolds turns (table_of a.book) (log_of a.book)) a.ends.items

-- The log is one legal history of these scripts' clients and of so many runners.
pub record IsOneHistory {D : Type 0} {ghosts : Ghosts D} (scripts : List (List Command))
    (runners turns : ℕ) (a : Attended D ghosts) : Type 0 where
  pub legal : IsLegal (start_of a.book) (log_of a.book)
  pub replayed : replay (start_of a.book) (log_of a.book) ≡ table_of a.book
  pub clients : AreOfClients (length scripts) (log_of a.book)
  pub answers : AreParts (kept_log a) a.answers.items
  pub after : MayStandAfter a.answers.items (unkept_log a)
  pub failed : FailuresStandLast a.answers.items (unkept_log a)
  pub scripts_kept : AllZip KeepsTo scripts a.answers.items
  pub counted : length a.ends.items ≡ runners
  pub ends : All (EndHolds turns (table_of a.book) (log_of a.book)) a.ends.items
