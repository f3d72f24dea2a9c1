-- What the moves of a server make of its past.
use Rattle.std.specs.Prelude.{◌≡◌, ◌≤◌, ℕ, List, [], ◌∷◌, ◌++◌, length, take}
use Rattle.ic_jobs.specs.declared.event.Entry.{Entry}
use Rattle.ic_book.specs.Entries.{command_entry, round_entry}
use Rattle.ic_book.specs.Moves.{Move, opens, refuses, answers, fails, takes, rounds, keeps, stays, closes, stops, brings}

-- All that has come except for what openings didn't find, in order, and how many of these entries
-- last whatever stop comes: those up to the last answered command, keep or opening.
pub record Past : Type 0 where
  pub entries : List Entry
  pub lasting : ℕ

-- before anything has come
abbrev pub nothing : Past
nothing = record { entries = []; lasting = 0 }

-- these entries stand at the end
abbrev pub Grows : List Entry → Past → Past → Type 0
Grows more old new = new.entries ≡ old.entries ++ more

-- all entries last
abbrev pub AllLast : Past → Type 0
AllLast new = new.lasting ≡ length new.entries

-- as many of them last as before
abbrev pub AsManyLast : Past → Past → Type 0
AsManyLast old new = new.lasting ≡ old.lasting

-- An opening finds a prefix that has all entries that last; and all that is found lasts.
pub record Cuts (old new : Past) : Type 0 where
  pub found : ℕ
  pub entries : new.entries ≡ take found old.entries
  pub within : found ≤ length old.entries
  pub spares : old.lasting ≤ found
  pub lasting : AllLast new

-- What one move makes of the past. What was under way at a stop stands in doubt at its end, until
-- an opening finds it or doesn't.
abbrev pub Next : Move → Past → Past → Type 0
Next opens old new = Cuts old new
Next (refuses cause) old new = new ≡ old
Next (answers who command reply) old new =
    Grows (command_entry who command reply ∷ []) old new × AllLast new
Next (fails who command reply) old new =
    Grows (command_entry who command reply ∷ []) old new × AsManyLast old new
Next (takes who command reply) old new =
    Grows (command_entry who command reply ∷ []) old new × AsManyLast old new
Next (rounds name reply) old new =
    Grows (round_entry name reply ∷ []) old new × AsManyLast old new
Next keeps old new = (new.entries ≡ old.entries) × AllLast new
Next stays old new = new ≡ old
Next closes old new = new ≡ old
Next (stops move) old new = Grows (brings move) old new × AsManyLast old new

-- These moves may lead from one past to another. The newest is first.
abbrev pub Leads : List Move → (first last : Past) → Type 0
Leads [] first last = last ≡ first
Leads (move ∷ moves) first last =
    (before : Past) × Leads moves first before × Next move before last

-- a past to which these moves may have come
abbrev pub IsPast : List Move → Past → Type 0
IsPast moves past = Leads moves nothing past
