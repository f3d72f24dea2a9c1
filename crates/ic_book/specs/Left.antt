-- Which tables a crash may leave on the disk of a book. This project's choice.
use Rattle.std.specs.Prelude.{ℕ, List, take}
use Rattle.ic_jobs.specs.declared.event.Entry.{Entry}
use Rattle.ic_jobs.specs.Job.{JobParts}
use Rattle.ic_jobs.specs.History.{replay}
use Rattle.ic_slots.specs.Held.{HoldsEitherTable}

-- the table after the first so many entries
abbrev pub table_kept : (start : List JobParts) (log : List Entry) (kept : ℕ) → List JobParts
table_kept start log kept = replay start (take kept log)

-- a made file that holds the table after the first so many entries, or after all
abbrev pub HoldsKeptOrAll : (start : List JobParts) (log : List Entry) (kept : ℕ)
    (file : List ℕ) → Type 0
HoldsKeptOrAll start log kept file =
    HoldsEitherTable (table_kept start log kept) (replay start log) file
