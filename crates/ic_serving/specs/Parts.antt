-- Tables between the events of a line.
use Rattle.std.specs.Prelude.{◌≡◌, ◌⊎◌, ◌<◌, ℕ, List, [], ◌∷◌, ◌++◌, Some, length}
use Rattle.ic_jobs.specs.Job.{JobParts}
use Rattle.ic_jobs.specs.declared.event.Event.{Event}
use Rattle.ic_jobs.specs.declared.reply.Reply.TheVariants.{Moved}
use Rattle.ic_jobs.specs.History.{reply_to}
use Rattle.ic_commands.specs.LineText.{ReadsLine}
use Rattle.ic_lines.specs.Turns.{after_events}
use Rattle.ic_lines.specs.Answers.{Reading, events}
use Rattle.ic_lines.specs.Serving.{IsServed}

-- this table is the one after a front of some events
pub record IsPart (t : List JobParts) (es : List Event) (u : List JobParts) : Type 0 where
  pub front : List Event
  pub rest : List Event
  pub parted : es ≡ front ++ rest
  pub leaves : u ≡ after_events t front

-- this table is the one before a round among some events: it answers the round by `Moved`
pub record IsBeforeRound (t : List JobParts) (es : List Event) (u : List JobParts) : Type 0 where
  pub before : List Event
  pub event : Event
  pub after : List Event
  pub parted : es ≡ before ++ event ∷ after
  pub leaves : u ≡ after_events t before
  pub made : reply_to u event ≡ Some Moved

-- the table that was kept before them, or the one after a front of them
abbrev pub IsKeptWithin : (t kept : List JobParts) (es : List Event) (u : List JobParts) → Type 0
IsKeptWithin t kept es u = (u ≡ kept) ⊎ IsPart t es u

-- this table is the one after a front of the events that a line asks for
pub record IsInLine (t : List JobParts) (line : List ℕ) (u : List JobParts) : Type 0 where
  pub reading : Reading
  pub read : ReadsLine line reading
  pub part : IsPart t (events t reading) u

-- the same of the first of some lines; where there is none, it is the table before it
abbrev pub IsInFirst : (t : List JobParts) (ls : List (List ℕ)) (u : List JobParts) → Type 0
IsInFirst t [] u = u ≡ t
IsInFirst t (line ∷ ls) u = IsInLine t line u

-- This table is within one of the first so many of some lines: those before it were served, and a front
-- of its events has come. Where no line is left after those, it is the table that they leave.
pub record IsInFew (most : ℕ) (t : List JobParts) (ls : List (List ℕ)) (u : List JobParts) : Type 0 where
  pub front : List (List ℕ)
  pub rest : List (List ℕ)
  pub answers : List ℕ
  pub between : List JobParts
  pub parted : ls ≡ front ++ rest
  pub few : length front < most
  pub served : IsServed t front answers between
  pub in_line : IsInFirst between rest u
