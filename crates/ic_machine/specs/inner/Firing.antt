-- What the parts of a firing do.
use Rattle.std.specs.Prelude.{◌≡◌, ℕ, ◌+◌, ◌*◌, ◌^◌, ◌<◌, ◌≤◌, List, [], ◌∷◌, ◌++◌, length, map, slice_index_or, IsPermutation}
use Rattle.std.specs.List.{AllByRecursion}
use Rattle.ic_arena.specs.declared.word.Word.{Word}
use Rattle.ic_arena.specs.declared.word.TheConstants.{NAME}
use Rattle.ic_arena.specs.Piece.{Piece, idle, agent_with}
use Rattle.ic_arena.specs.Tables.{Replaced, Blocks, blocks_pieces, names_pieces}
use Rattle.ic_machine.specs.Plan.{Made, made_each}
use Rattle.ic_machine.specs.Steps.{AreFresh}

-- what the tables of agents say, the first of which is that of this symbol
abbrev pub heaps_pieces : ℕ → List Blocks → List Piece
heaps_pieces s [] = []
heaps_pieces s (b ∷ bs) = blocks_pieces s b ++ heaps_pieces (s + 1) bs

-- the arities of tables of agents
abbrev pub arities_of : List Blocks → List ℕ
arities_of hs = map (λ b. b.arity) hs

-- the table of the agents of this symbol, or one of none
abbrev pub table : List Blocks → ℕ → Blocks
table hs s = slice_index_or hs s (record { arity = 0; count = 0; words = []; capacity = 0 })

-- two tables have as many blocks of as many words, and memory for as many
pub record SameSize (a b : Blocks) : Type 0 where
  pub arity : b.arity ≡ a.arity
  pub count : b.count ≡ a.count
  pub len : length b.words ≡ length a.words
  pub capacity : b.capacity ≡ a.capacity

-- a table has at most so many blocks more, and memory for as many as before
pub record IsGrown (n : ℕ) (a b : Blocks) : Type 0 where
  pub arity : b.arity ≡ a.arity
  pub count : b.count ≤ a.count + n
  pub len : length b.words ≤ length a.words + n * a.arity
  pub capacity : b.capacity ≡ a.capacity

-- the same tables, where some have more memory
abbrev pub AreSame : List Blocks → List Blocks → Type 0
AreSame [] [] = Unit {0}
AreSame [] (c ∷ cs) = ⊥
AreSame (b ∷ bs) [] = ⊥
AreSame (b ∷ bs) (c ∷ cs) =
    ((c.arity ≡ b.arity) × (c.count ≡ b.count) × (c.words ≡ b.words) × (b.capacity ≤ c.capacity)) × AreSame bs cs

-- a table has memory for so many more blocks, and numbers for them
abbrev pub HasBlocks : ℕ → Blocks → Type 0
HasBlocks n b = (length b.words + n * b.arity ≤ b.capacity) × (b.count + n < 2 ^ 32)

-- so has the table of an agent that is to be made
abbrev pub HasRoom : List Blocks → ℕ → Made → Type 0
HasRoom hs n m = HasBlocks n (table hs m.symbol)

-- The arguments of an agent are taken out of its table, and put after those in registers.
pub record Taken (agent : Word) (arity : ℕ) (xs ys : List Piece) (before after : List Word) : Type 0 where
  pub args : List Word
  pub count : length args ≡ arity
  pub pushed : after ≡ before ++ args
  pub gone : Replaced (agent_with agent args) [] xs ys

-- So many names that were free are opened, and put after what is in registers.
pub record Opened (n : ℕ) (old new : List Word) (before after : List Word) : Type 0 where
  pub names : List Word
  pub count : length names ≡ n
  pub pushed : after ≡ before ++ names
  pub tags : AllByRecursion (λ w. w.tag ≡ NAME) names
  pub pieces : IsPermutation (names_pieces 0 new) (map idle names ++ names_pieces 0 old)
  pub fresh : AreFresh names (names_pieces 0 old)

-- Agents are made as planned, at places that were free, and put after what is in registers. Their arguments are in the
-- registers as they are in the end.
pub record Makes (made : List Made) (xs ys : List Piece) (before after : List Word) : Type 0 where
  pub places : List Word
  pub count : length places ≡ length made
  pub pushed : after ≡ before ++ places
  pub tags : map (λ w. w.tag) places ≡ map (λ m. m.symbol + 1) made
  pub pieces : IsPermutation ys (made_each after made places ++ xs)
  pub fresh : AreFresh places xs
