-- Lemmas: what the type of a book says, of every book.
use Rattle.ic_disk.specs.declared.disk.Disk.{Ghosts}
use Rattle.ic_book.specs.declared.book.Book.{Book}
use Rattle.ic_book.specs.Book.{start_of, log_of, table_of, kept_of, is_broken}
use Rattle.ic_book.specs.Kept.{IsHistory}

pub history_of : {D : Type 0} {ghosts : Ghosts D} (book : Book D ghosts)
    → IsHistory (start_of book) (log_of book) (table_of book) (kept_of book) (is_broken book)
history_of book = book.history
