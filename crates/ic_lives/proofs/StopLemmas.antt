-- A stop in the midst of a step.
use Rattle.ic_disk.specs.declared.disk.Disk.{Ghosts}
use Rattle.ic_book.specs.declared.book.Book.{Book}
use Rattle.ic_book.specs.Book.{disk_of}
use Rattle.ic_book.specs.Moves.{Move, opens, refuses, answers, fails, takes, rounds, keeps, stays, closes, stops}
use Rattle.ic_book.specs.Server.{down, up, IsFound, Step}

module _ {D : Type 0} {ghosts : Ghosts D} where
  pub step_stop : (move : Move) (before after : Book D ghosts) (found : D) → Step move (up before) (up after) → IsFound ghosts (disk_of before) (disk_of after) found
      → Step (stops move) (up before) (down found)
  step_stop opens before after found is here = (up after, is, here)
  step_stop (refuses cause) before after found is here = (up after, is, here)
  step_stop (answers who command reply) before after found is here = (up after, is, here)
  step_stop (fails who command reply) before after found is here = (up after, is, here)
  step_stop (takes who command reply) before after found is here = (up after, is, here)
  step_stop (rounds name reply) before after found is here = (up after, is, here)
  step_stop keeps before after found is here = (up after, is, here)
  step_stop stays before after found is here = (up after, is, here)
  step_stop closes before after found is here = (up after, is, here)
  step_stop (stops (stops move)) before after found is here = absurd is
  step_stop (stops move) before after found is here = absurd is.page
