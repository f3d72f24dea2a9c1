-- For private functions: what is answered to a line that is read so.
use Rattle.std.specs.Prelude.{◌≡◌, ℕ, List}
use Rattle.ic_disk.specs.declared.disk.Disk.{Ghosts}
use Rattle.ic_lines.specs.Answers.{Reading, events, answer, after_line}
use Rattle.ic_book.specs.declared.book.Book.{Book}
use Rattle.ic_book.specs.Book.{table_of}
use Rattle.ic_serving.specs.Answered.{IsKeptFor, IsWholeFor, IsFreshFor, IsDoneFor}
use Rattle.ic_serving.specs.Grown.{GoesOn, HasRoom}

-- each line that is read so is answered by these bytes, and what it leaves is kept
pub record IsAnsweredAs {D : Type 0} {ghosts : Ghosts D} (limit : ℕ) (reading : Reading) (bytes : List ℕ)
    (old new : Book D ghosts) : Type 0 where
  pub answer : bytes ≡ answer (table_of old) reading
  pub table : table_of new ≡ after_line (table_of old) reading
  pub kept : IsKeptFor reading old new
  pub whole : IsWholeFor reading new
  pub fresh : IsFreshFor reading old
  pub page : HasRoom limit (events (table_of old) reading) old
      → GoesOn (events (table_of old) reading) old new
  pub done : IsDoneFor reading bytes old new
