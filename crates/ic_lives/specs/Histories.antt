-- What the moves of a server leave of commands and rounds.
use Rattle.std.specs.Prelude.{◌≡◌, ◌⊎◌, List, [], ◌∷◌, ◌++◌}
use Rattle.ic_jobs.specs.declared.event.Entry.{Entry}
use Rattle.ic_jobs.specs.History.{IsLegal}
use Rattle.ic_book.specs.Entries.{command_entry}
use Rattle.ic_book.specs.Moves.{Move, opens, answers, takes, keeps, brings}

-- the commands that these moves have taken and not kept since, with their replies, in order
abbrev pub taken : List Move → List Entry
taken [] = []
taken (takes who command reply ∷ moves) = taken moves ++ command_entry who command reply ∷ []
taken (answers who command reply ∷ moves) = []
taken (keeps ∷ moves) = []
taken (opens ∷ moves) = []
taken (move ∷ moves) = taken moves

-- The commands that these moves have answered, with their replies, in order. One that was taken is
-- answered by what keeps it: a keep, or a later command that is answered.
abbrev pub answered : List Move → List Entry
answered [] = []
answered (answers who command reply ∷ moves) =
    answered moves ++ (taken moves ++ command_entry who command reply ∷ [])
answered (keeps ∷ moves) = answered moves ++ taken moves
answered (move ∷ moves) = answered moves

-- all commands and rounds that have come by them, in order
abbrev pub come : List Move → List Entry
come [] = []
come (move ∷ moves) = come moves ++ brings move

-- These entries stand among others, in the same order.
abbrev pub StandAmong : List Entry → List Entry → Type 0
StandAmong [] others = Unit {0}
StandAmong (e ∷ es) [] = ⊥
StandAmong (e ∷ es) (other ∷ others) =
    ((e ≡ other) × StandAmong es others) ⊎ StandAmong (e ∷ es) others

-- A legal history of these moves: it has every answered command with its reply, in order, and
-- nothing but what has come.
pub record IsHistoryOf (moves : List Move) (history : List Entry) : Type 0 where
  pub legal : IsLegal [] history
  pub answers : StandAmong (answered moves) history
  pub comes : StandAmong history (come moves)
