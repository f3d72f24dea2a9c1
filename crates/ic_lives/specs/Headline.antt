-- What the law over all runs of a server concludes.
use Rattle.std.specs.Prelude.{◌≡◌, ◌≤◌, ℕ, List, [], length, take}
use Rattle.ic_jobs.specs.declared.event.Entry.{Entry}
use Rattle.ic_jobs.specs.Job.{JobParts}
use Rattle.ic_jobs.specs.Table.{job_named}
use Rattle.ic_jobs.specs.History.{replay, IsLegal}
use Rattle.ic_jobs.specs.Life.{life, IsAsLived}
use Rattle.ic_slots.specs.Held.{HoldsTable}
use Rattle.ic_book.specs.Moves.{Move}
use Rattle.ic_lives.specs.Past.{Past, IsPast}

-- A name has a job in the table exactly if it lives by this history, and the job is as its life says.
abbrev pub AreIterates : (history : List Entry) (table : List JobParts) → Type 0
AreIterates history table =
    (name : List ℕ) → IsAsLived (job_named name table) (life name history)

-- A past tells of a table: it is a legal history, the table is the replay of all its entries, and
-- each job is as its life says.
pub record TellsTable (past : Past) (table : List JobParts) : Type 0 where
  pub legal : IsLegal [] past.entries
  pub lasting : past.lasting ≤ length past.entries
  pub replayed : table ≡ replay [] past.entries
  pub jobs : AreIterates past.entries table

-- A past tells of a file: it is a legal history, and the file holds the table after a prefix of it
-- that has all entries that last.
pub record TellsFile (past : Past) (file : List ℕ) : Type 0 where
  pub legal : IsLegal [] past.entries
  pub prefix : ℕ
  pub lasting : past.lasting ≤ prefix
  pub within : prefix ≤ length past.entries
  pub holds : HoldsTable (replay [] (take prefix past.entries)) file

-- the table after these moves is the one that a past of them tells
pub record IsTableAfter (moves : List Move) (table : List JobParts) : Type 0 where
  pub past : Past
  pub comes : IsPast moves past
  pub tells : TellsTable past table

-- a file that is found after these moves holds the table after a prefix of some past of them, and
-- this prefix has all entries that last
pub record HoldsPrefixAfter (moves : List Move) (file : List ℕ) : Type 0 where
  pub past : Past
  pub comes : IsPast moves past
  pub tells : TellsFile past file
