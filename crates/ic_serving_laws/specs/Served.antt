-- What a stop makes of moves that were under way.
use Rattle.std.specs.Prelude.{◌≡◌, List, ◌∷◌, ◌++◌}
use Rattle.ic_disk.specs.declared.disk.Disk.{Ghosts}
use Rattle.ic_book.specs.declared.book.Book.{Book}
use Rattle.ic_book.specs.Moves.{Move, stops}

-- Of these moves the earlier ones were made, and the next was stopped in its midst.
pub record IsCutShort (moves cut : List Move) : Type 0 where
  pub earlier : List Move
  pub move : Move
  pub later : List Move
  pub parted : moves ≡ later ++ move ∷ earlier
  pub stopped : cut ≡ stops move ∷ earlier

-- a book over such a disk
abbrev pub BookOver : {D : Type 0} → Ghosts D → Type 0
BookOver {D} ghosts = Book D ghosts
