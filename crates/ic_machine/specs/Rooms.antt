-- Nets of several machines as one net: the places of each are in a room of its own.
use Rattle.std.specs.Prelude.{◌≡◌, ℕ, ◌+◌, ◌*◌, List, false, map, sum_by, if◌then◌else◌}
use Rattle.ic_arena.specs.declared.word.Word.{Word}
use Rattle.ic_arena.specs.Piece.{Piece, equated, idle, waits, agent_of, room}
use Rattle.ic_machine.specs.Separate.{is_constant_tag}

-- So many rooms there are: room 0 for cuts, and one for each of 512 machines.
abbrev pub ROOMS : ℕ
ROOMS = 513

-- A word of the machine in this room, among the words of all. A place has another number there, of which no other room has
-- one. What names no place stays as it is.
abbrev pub in_room : List ℕ → ℕ → Word → Word
in_room arities k w = if is_constant_tag arities w.tag then w
    else record { tag = w.tag; index = w.index * ROOMS + k }

-- a piece of the machine in this room, among the pieces of all
abbrev pub piece_in : List ℕ → ℕ → Piece → Piece
piece_in arities k (equated l r) = equated (in_room arities k l) (in_room arities k r)
piece_in arities k (idle x) = idle (in_room arities k x)
piece_in arities k (waits x u) = waits (in_room arities k x) (in_room arities k u)
piece_in arities k (agent_of a ws) = agent_of (in_room arities k a) (map (in_room arities k) ws)

abbrev pub pieces_in : List ℕ → ℕ → List Piece → List Piece
pieces_in arities k ps = map (piece_in arities k) ps

-- No piece says what is at a place of this room.
abbrev pub IsOutside : List ℕ → ℕ → List Piece → Type 0
IsOutside arities k ps = (w : Word) → is_constant_tag arities w.tag ≡ false
    → sum_by (room (in_room arities k w)) ps ≡ 0
