-- Several looks at one server, told by pasts.
use Rattle.std.specs.Prelude.{◌≡◌, ℕ, List, [], ◌∷◌}
use Rattle.ic_disk.specs.declared.disk.Disk.{Ghosts}
use Rattle.ic_book.specs.Book.{table_of}
use Rattle.ic_book.specs.Moves.{Move}
use Rattle.ic_book.specs.Server.{Server, down, up, Runs}
use Rattle.ic_lives.specs.Headline.{TellsFile, TellsTable}
use Rattle.ic_lives.specs.Past.{Past, nothing, Next}

-- a past tells of an open book's table, or of whatever image is found of a disk
abbrev pub Tells : {D : Type 0} {ghosts : Ghosts D} → Past → Server ghosts → Type 0
Tells past (up book) = TellsTable past (table_of book)
Tells {ghosts = g} past (down disk) = (file : List ℕ) → g.image disk file → TellsFile past file

-- Each server along a run is told by a past, and each of these pasts goes on from the one before.
abbrev pub AreTold : {D : Type 0} {ghosts : Ghosts D} (moves : List Move)
    (first last : Server ghosts) → Runs moves first last → Past → Type 0
AreTold [] first last runs past = (past ≡ nothing) × Tells past last
AreTold (move ∷ moves) first last runs past =
    (before : Past) × AreTold moves first runs.0 runs.1 before
    × Next move before past × Tells past last
