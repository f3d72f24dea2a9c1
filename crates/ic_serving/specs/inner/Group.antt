-- For private functions: commands that are taken over a book, and lines that are answered at once.
use Rattle.std.specs.Prelude.{◌≡◌, ◌≢◌, ◌⊎◌, ◌≤◌, ◌<◌, ◌+◌, ◌-◌, ◌^◌, ℕ, List, [], ◌∷◌, ◌++◌, Option, None, Some, Bool, true, length, map, ⊤}
use Rattle.std.specs.List.{AllByRecursion}
use Rattle.ic_disk.specs.declared.disk.Disk.{Ghosts}
use Rattle.ic_text.specs.declared.limits.TheConstants.{MAX_TEXT}
use Rattle.ic_jobs.specs.Job.{JobParts}
use Rattle.ic_jobs.specs.declared.command.Command.{Command}
use Rattle.ic_jobs.specs.declared.event.Event.{Event}
use Rattle.ic_jobs.specs.declared.event.Event.TheVariants.{Command as by_command}
use Rattle.ic_lines.specs.Lines.{lines}
use Rattle.ic_lines.specs.Serving.{IsServed}
use Rattle.ic_lines.specs.Taking.{BufferParts, to_come}
use Rattle.ic_lines.specs.Turns.{after_events}
use Rattle.ic_book.specs.declared.book.Book.{Book}
use Rattle.ic_book.specs.Book.{disk_of, keeper_of, number_of, table_of, IsUnchanged}
use Rattle.ic_serving.specs.declared.fault.ServeFault.{ServeFault}
use Rattle.ic_serving.specs.Answered.{AreAnsweredAtOnce, AreTaken, AskFor, EndsWith}
use Rattle.ic_book.specs.Moves.{keeps}
use Rattle.ic_serving.specs.Booked.{last_kept, unkept_of, Begins, IsAllKept}
use Rattle.ic_serving.specs.Grown.{GoesOn, HasRoom, HasSpare}
use Rattle.ic_serving.specs.Moments.{Leaves}
use Rattle.ic_serving.specs.Parts.{IsInFew, IsKeptWithin}
use Rattle.ic_serving.specs.Served.{ComesAt}

-- these commands as events
abbrev pub asked : List Command → List Event
asked commands = map by_command commands

-- These events have come to the table and to its page, and what was kept before or a front of them is
-- kept. A crash since leaves the table that was kept before, or one within them.
pub record HaveCome {D : Type 0} {ghosts : Ghosts D} (limit : ℕ) (es : List Event) (old new : Book D ghosts) : Type 0 where
  pub table : table_of new ≡ after_events (table_of old) es
  pub kept : IsKeptWithin (table_of old) (last_kept old) es (last_kept new)
  pub page : HasRoom limit es old → GoesOn es old new
  pub crash : Leaves old new (IsKeptWithin (table_of old) (last_kept old) es)

-- these lines are taken: they were the first of those to come
abbrev pub TakesLines : List (List ℕ) → (old new : Option (List ℕ)) → Type 0
TakesLines ls None new = ⊤
TakesLines ls (Some old) None = ⊥
TakesLines ls (Some old) (Some new) = lines old ≡ ls ++ lines new

-- lines that were ready are taken from a buffer, whatever its reader has left
pub record ArePassed (ls : List (List ℕ)) (before after : BufferParts) : Type 0 where
  pub passed : (remaining : Option (List ℕ)) → TakesLines ls (to_come before remaining) (to_come after remaining)
  pub short : AllByRecursion (λ line. length line ≤ MAX_TEXT) ls

-- At most so many commands of lines that were ready are taken, without a call to the disk. Where it went
-- well their answers are added, and they are counted.
pub record TakesReady {D : Type 0} {ghosts : Ghosts D} (limit most : ℕ) (well : Bool)
    (before after : BufferParts) (answers answers_then : List ℕ) (count count_then : ℕ)
    (old new : Book D ghosts) : Type 0 where
  pub commands : List Command
  pub ls : List (List ℕ)
  pub asks : AskFor ls commands
  pub took : ArePassed ls before after
  pub few : length ls ≤ most
  pub come : HaveCome limit (asked commands) old new
  pub keeper : keeper_of new ≡ keeper_of old
  pub unkept : unkept_of new ≤ unkept_of old + length ls
  pub counted : well ≡ true → count_then ≡ count + length ls
  pub taken : well ≡ true → (own : List ℕ) × (answers_then ≡ answers ++ own) × AreTaken commands own old new

-- What lines come to that are answered at once, the first of them taken and the others ready: they are so
-- many, at most as many as this, and all is kept then or nothing has changed.
pub record IsNextAnswered {D : Type 0} {ghosts : Ghosts D} (limit most : ℕ) (before after : BufferParts)
    (bytes : List ℕ) (count : ℕ) (old new : Book D ghosts) : Type 0 where
  pub more : List (List ℕ)
  pub took : ArePassed more before after
  pub counted : count ≡ length more + 1
  pub few : count ≤ most
  pub answered : AreAnsweredAtOnce limit (before.line ∷ more) bytes old new
  pub served : IsServed (table_of old) (before.line ∷ more) bytes (table_of new)
  pub kept : IsAllKept new ⊎ IsUnchanged old new
  pub crash : Leaves old new (λ u. (u ≡ last_kept old) ⊎ IsInFew most (table_of old) (before.line ∷ more) u)

-- And what they come to where a fault comes: the table is within one of them, and what was kept before
-- or a table within them is kept.
pub record IsNextBegun {D : Type 0} {ghosts : Ghosts D} (most : ℕ) (before after : BufferParts)
    (fault : ServeFault) (old new : Book D ghosts) : Type 0 where
  pub more : List (List ℕ)
  pub took : ArePassed more before after
  pub few : length more < most
  pub comes : ComesAt (table_of old) before.line (table_of new) fault
  pub within : IsInFew most (table_of old) (before.line ∷ more) (table_of new)
  pub kept : (last_kept new ≡ last_kept old) ⊎ IsInFew most (table_of old) (before.line ∷ more) (last_kept new)
  pub crash : Leaves old new (λ u. (u ≡ last_kept old) ⊎ IsInFew most (table_of old) (before.line ∷ more) u)

-- Commands were taken as a group, the first of them read before, and kept at once.
pub record IsGroupDone {D : Type 0} {ghosts : Ghosts D} (limit most : ℕ) (first : Command) (before after : BufferParts)
    (bytes : List ℕ) (count : ℕ) (old new : Book D ghosts) : Type 0 where
  pub commands : List Command
  pub ls : List (List ℕ)
  pub asks : AskFor ls commands
  pub took : ArePassed ls before after
  pub counted : count ≡ length ls + 1
  pub few : count ≤ most
  pub between : Book D ghosts
  pub taken : AreTaken (first ∷ commands) bytes old between
  pub kept : EndsWith keeps between new
  pub table : table_of new ≡ table_of between
  pub fresh : number_of old ≢ 2 ^ 64 - 1
  pub come : HaveCome limit (asked (first ∷ commands)) old new
  pub calls : HasSpare limit old → ghosts.clock (disk_of new) ≤ ghosts.clock (disk_of old) + 6

-- and where a fault came
pub record IsGroupBegun {D : Type 0} {ghosts : Ghosts D} (limit most : ℕ) (first : Command) (before after : BufferParts)
    (old new : Book D ghosts) : Type 0 where
  pub commands : List Command
  pub ls : List (List ℕ)
  pub asks : AskFor ls commands
  pub took : ArePassed ls before after
  pub few : length ls < most
  pub begun : Begins limit (asked (first ∷ commands)) old new
  pub crash : Leaves old new (IsKeptWithin (table_of old) (last_kept old) (asked (first ∷ commands)))
