-- Which calls of a book make up a call over it, as moves of a server, and which
-- disk is found after a stop in its midst. This project's choice.
use Rattle.std.specs.Prelude.{◌≡◌, List, [], ◌∷◌, ◌++◌, IsTrue}
use Rattle.ic_disk.specs.declared.disk.Disk.{Ghosts}
use Rattle.ic_disk.specs.Images.{Within}
use Rattle.ic_frames.specs.Fields.{IsMade}
use Rattle.ic_book.specs.declared.book.Book.{Book}
use Rattle.ic_book.specs.Book.{disk_of}
use Rattle.ic_book.specs.Moves.{Move}
use Rattle.ic_book.specs.Server.{IsCall, IsFound}

-- its disk keeps the model and is made
abbrev pub IsOnMadeDisk : {D : Type 0} {ghosts : Ghosts D} → Book D ghosts → Type 0
IsOnMadeDisk {D} {ghosts} book =
    IsTrue (ghosts.keeps (disk_of book)) × Within (ghosts.image (disk_of book)) IsMade

-- These calls of a book lead from one to another. The newest is first.
abbrev pub Calls : {D : Type 0} {ghosts : Ghosts D}
    → List Move → (first last : Book D ghosts) → Type 0
Calls [] first last = last ≡ first
Calls {D} {ghosts} (move ∷ moves) first last =
    (before : Book D ghosts) × Calls moves first before × IsCall move before last

-- A stop came in the midst of one of these calls, and this disk is found: the earlier ones lead to a
-- book, and the next one was under way.
pub record IsStoppedWithin {D : Type 0} {ghosts : Ghosts D} (moves : List Move)
    (first : Book D ghosts) (found : D) : Type 0 where
  pub earlier : List Move
  pub move : Move
  pub later : List Move
  pub parted : moves ≡ later ++ move ∷ earlier
  pub before : Book D ghosts
  pub after : Book D ghosts
  pub calls : Calls earlier first before
  pub under_way : IsCall move before after
  pub stop : IsFound ghosts (disk_of before) (disk_of after) found

-- A book becomes another by calls of a book and nothing else. Whatever disk is found after a stop
-- since the first, on a made disk that keeps the model, is found after a stop in one of them.
pub record IsByCalls {D : Type 0} {ghosts : Ghosts D} (old new : Book D ghosts) : Type 0 where
  pub moves : List Move
  pub calls : Calls moves old new
  pub stopped : IsOnMadeDisk old → (found : D)
      → IsFound ghosts (disk_of old) (disk_of new) found → IsStoppedWithin moves old found
