-- What putting names through needs of them, and leaves.
use Rattle.std.specs.Prelude.{◌≡◌, ◌≢◌, ◌⊎◌, ℕ, ◌≤◌, List, sum_by}
use Rattle.ic_arena.specs.declared.word.Word.{Word}
use Rattle.ic_arena.specs.declared.word.TheConstants.{FREE, IDLE}
use Rattle.ic_arena.specs.Word.{name_word}
use Rattle.ic_arena.specs.Piece.{room, uses}
use Rattle.ic_arena.specs.Tables.{entry, names_pieces}

-- nothing waits, or the name is free
abbrev pub IsMark : Word → Type 0
IsMark w = (w.tag ≡ IDLE) ⊎ (w.tag ≡ FREE)

-- this name waits for no other name for which a word waits
abbrev pub IsThrough : List Word → ℕ → Type 0
IsThrough entries i = (j : ℕ) → entry entries i ≡ name_word j → j ≢ i → IsMark (entry entries j)

-- each name is named by the entries at most as often as there is room
abbrev pub IsRoomy : List Word → Type 0
IsRoomy entries = (i : ℕ) → sum_by (uses (name_word i)) (names_pieces 0 entries)
    ≤ sum_by (room (name_word i)) (names_pieces 0 entries)
