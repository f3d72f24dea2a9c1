-- What the tables of names and of agents hold, as pieces.
use Rattle.std.specs.Prelude.{◌≡◌, ℕ, zero, suc, ◌+◌, ◌*◌, ◌==◌, List, [], ◌∷◌, ◌++◌, length, take, drop, slice_index_or, if◌then◌else◌}
use Rattle.ic_arena.specs.declared.word.Word.{Word}
use Rattle.ic_arena.specs.declared.word.TheConstants.{IDLE, FREE}
use Rattle.ic_arena.specs.Word.{name_word, agent_word}
use Rattle.ic_arena.specs.Piece.{Piece, idle, waits, agent_of}

-- One list of pieces is the other, with these pieces in the place of those.
pub record Replaced (old new xs ys : List Piece) : Type 0 where
  pub front : List Piece
  pub back : List Piece
  pub before : xs ≡ front ++ (old ++ back)
  pub after : ys ≡ front ++ (new ++ back)

-- the entries of names, and how many there is memory for
pub record Entries : Type 0 where
  pub entries : List Word
  pub capacity : ℕ

-- what the entry of a name says
abbrev pub entry_piece : ℕ → Word → List Piece
entry_piece i w = if w.tag == FREE then [] else
    if w.tag == IDLE then idle (name_word i) ∷ [] else waits (name_word i) w ∷ []

-- what the entries of names say, the first of which is that of this name
abbrev pub names_pieces : ℕ → List Word → List Piece
names_pieces i [] = []
names_pieces i (w ∷ ws) = entry_piece i w ++ names_pieces (i + 1) ws

-- the entry of a name, or a free one after the last
abbrev pub entry : List Word → ℕ → Word
entry ws i = slice_index_or ws i (record { tag = FREE; index = 0 })

-- so many blocks, each of as many words as the arity, and how many words there is memory for
pub record Blocks : Type 0 where
  pub arity : ℕ
  pub count : ℕ
  pub words : List Word
  pub capacity : ℕ

-- what a block of words says, where its agent is at this place
abbrev pub block_piece : Word → List Word → List Piece
block_piece a [] = []
block_piece a (w ∷ ws) = if w.tag == FREE then [] else agent_of a (w ∷ ws) ∷ []

-- what so many blocks of k words say, the first of which is this one, for agents of this symbol
abbrev pub blocks_from : ℕ → ℕ → ℕ → ℕ → List Word → List Piece
blocks_from s k i zero ws = []
blocks_from s k i (suc n) ws =
    block_piece (agent_word s i) (take k ws) ++ blocks_from s k (i + 1) n (drop k ws)

-- what blocks say, for agents of this symbol
abbrev pub blocks_pieces : ℕ → Blocks → List Piece
blocks_pieces s b = blocks_from s b.arity 0 b.count b.words

-- the words of a block
abbrev pub block_at : Blocks → ℕ → List Word
block_at b i = take b.arity (drop (i * b.arity) b.words)

-- the first word of a block
abbrev pub first_word : Blocks → ℕ → Word
first_word b i = slice_index_or b.words (i * b.arity) (name_word 0)

-- the words are those of whole blocks, and there are none without words
pub record AreBlocks (b : Blocks) : Type 0 where
  pub some : b.arity ≡ 0 → b.count ≡ 0
  pub whole : length b.words ≡ b.count * b.arity

-- the word in a register
abbrev pub register : List Word → ℕ → Word
register rs k = slice_index_or rs k (name_word 0)
