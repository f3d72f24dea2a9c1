-- What a serving leaves, by its answer.
use Rattle.std.specs.Prelude.{◌≡◌, ⊤, ℕ, ◌<◌, ◌≤◌, List, [], ◌∷◌, ◌++◌, Option, None, Some, length}
use Rattle.std.specs.List.{AllByRecursion}
use Rattle.std.specs.Io.KnownBytes.{Appends}
use Rattle.ic_jobs.specs.Job.{JobParts}
use Rattle.ic_text.specs.declared.limits.TheConstants.{MAX_TEXT}
use Rattle.ic_commands.specs.LineText.{ReadsLine}
use Rattle.ic_lines.specs.Answers.{Reading}
use Rattle.ic_lines.specs.Lines.{lines}
use Rattle.ic_lines.specs.Serving.{IsServed}
use Rattle.ic_serving.specs.declared.limits.TheConstants.{MAX_LINES}
use Rattle.ic_serving.specs.declared.fault.ServeFault.{ServeFault}
use Rattle.ic_serving.specs.declared.fault.ServeFault.TheVariants.{Read, Write, TooManyLines, Book, Pool, LongLine, Memory}
use Rattle.ic_serving.specs.Faults.{ComesFor}
use Rattle.ic_serving.specs.Parts.{IsInFew}

-- this is so of the lines of a reader's bytes, or where it doesn't tell them, of some lines
abbrev pub OfLines : (bytes : Option (List ℕ)) (what : List (List ℕ) → Type 0) → Type 0
OfLines None what = (ls : List (List ℕ)) × what ls
OfLines (Some text) what = what (lines text)

-- all bytes that a reader tells were read
abbrev pub IsReadOut : (old new : Option (List ℕ)) → Type 0
IsReadOut None new = ⊤
IsReadOut (Some text) new = new ≡ Some []

-- lines that may be served: no more than there may be, and none too long
pub record MayBeServed (ls : List (List ℕ)) : Type 0 where
  pub few : length ls ≤ MAX_LINES
  pub short : AllByRecursion (λ line. length line ≤ MAX_TEXT) ls

-- Lines were served from one table to another, and what answers them was written.
pub record AreAnswered (ls : List (List ℕ)) (t u : List JobParts)
    (old new : Option (List ℕ)) : Type 0 where
  pub within : MayBeServed ls
  pub answers : List ℕ
  pub served : IsServed t ls answers u
  pub written : Appends old new answers

-- a fault comes at a line for what this asks of a table, and leaves this one
pub record ComesAt (t : List JobParts) (line : List ℕ) (left : List JobParts)
    (fault : ServeFault) : Type 0 where
  pub reading : Reading
  pub read : ReadsLine line reading
  pub comes : ComesFor t reading left fault

-- the same of the first of some lines; where there is none, it doesn't come
abbrev pub ComesAtFirst : (t : List JobParts) (ls : List (List ℕ)) (left : List JobParts)
    → ServeFault → Type 0
ComesAtFirst t [] left fault = ⊥
ComesAtFirst t (line ∷ ls) left fault = ComesAt t line left fault

-- what a fault says of the lines that were answered, which led to one table, of the table that is
-- left, and of the lines that weren't answered
abbrev pub SaysOf : ServeFault → (t left : List JobParts) (front rest : List (List ℕ)) → Type 0
SaysOf Read t left front rest = Unit {0}
SaysOf Write t left front rest = Unit {0}
SaysOf (Book fault) t left front rest = ComesAtFirst t rest left (Book fault)
SaysOf (Pool fault) t left front rest = ComesAtFirst t rest left (Pool fault)
SaysOf Memory t left front rest = Unit {0}
SaysOf LongLine t left front [] = ⊥
SaysOf LongLine t left front (line ∷ rest) = (length front < MAX_LINES) × (MAX_TEXT < length line)
SaysOf TooManyLines t left front [] = ⊥
SaysOf TooManyLines t left front (line ∷ rest) = length front ≡ MAX_LINES

-- What a fault says of a table: it may be within one of the next lines, of at most so many, and no
-- event of theirs has come where no line was taken.
abbrev pub IsLeftBy : ServeFault → (most : ℕ) (t : List JobParts) (ls : List (List ℕ))
    (u : List JobParts) → Type 0
IsLeftBy Read most t ls u = u ≡ t
IsLeftBy LongLine most t ls u = u ≡ t
IsLeftBy TooManyLines most t ls u = u ≡ t
IsLeftBy Write most t ls u = IsInFew most t ls u
IsLeftBy (Book fault) most t ls u = IsInFew most t ls u
IsLeftBy (Pool fault) most t ls u = IsInFew most t ls u
IsLeftBy Memory most t ls u = IsInFew most t ls u

-- A serving was ended by a fault other than that of the writer: this front of the lines is answered.
-- The table is within the group of at most so many lines after it, as is the one that was kept last
-- where all was kept.
pub record IsEnded (fault : ServeFault) (most : ℕ) (all_kept : Type 0)
    (front rest : List (List ℕ)) (t u kept : List JobParts) (old new : Option (List ℕ)) : Type 0 where
  pub between : List JobParts
  pub answered : AreAnswered front t between old new
  pub says : SaysOf fault between u front rest
  pub in_group : IsLeftBy fault most between rest u
  pub keeps : all_kept → IsLeftBy fault most between rest kept

-- these bytes were written, and after them a front of these
pub record AppendsFront (old new : Option (List ℕ)) (before after : List ℕ) : Type 0 where
  pub sent : List ℕ
  pub unsent : List ℕ
  pub parted : after ≡ sent ++ unsent
  pub written : Appends old new (before ++ sent)

-- The writer failed: this front of the lines is done. The answers to all of them are written, except
-- for those to a last group of at most so many, of which a front is.
pub record IsCut (most : ℕ) (front : List (List ℕ)) (t u : List JobParts) (old new : Option (List ℕ)) : Type 0 where
  pub whole : List (List ℕ)
  pub last : List (List ℕ)
  pub between : List JobParts
  pub answers : List ℕ
  pub more : List ℕ
  pub parted : front ≡ whole ++ last
  pub few : length last ≤ most
  pub within : MayBeServed front
  pub answered : IsServed t whole answers between
  pub done : IsServed between last more u
  pub written : AppendsFront old new answers more
