-- For private functions: what unpacking does to tables.
use Rattle.std.specs.Prelude.{◌≡◌, ℕ, ◌+◌, ◌-◌, ◌^◌, ◌==◌, ◌<◌, ◌≤◌, List, [], ◌∷◌, ◌++◌, false, length, max, reverse, slice_index_or, sum_by, IsPermutation, if◌then◌else◌}
use Rattle.std.specs.List.{AllByRecursion}
use Rattle.ic_arena.specs.declared.word.Word.{Word}
use Rattle.ic_arena.specs.declared.word.TheConstants.{IDLE, NAME}
use Rattle.ic_arena.specs.Word.{agent_word, count, name_word}
use Rattle.ic_arena.specs.Piece.{Piece, agent_of, idle, room, uses, waits}
use Rattle.ic_arena.specs.Tables.{Blocks, Replaced, blocks_pieces, names_pieces}
use Rattle.ic_machine.specs.declared.equation.Equation.{Equation}
use Rattle.ic_machine.specs.declared.tables.Tables.{Tables}
use Rattle.ic_machine.specs.Held.{IsTagOf}
use Rattle.ic_machine.specs.Moving.{CutEnd, end_word}
use Rattle.ic_machine.specs.Net.{in_use}
use Rattle.ic_machine.specs.Separate.{is_constant_tag}
use Rattle.ic_machine.specs.inner.Firing.{table}
use Rattle.ic_machine.specs.inner.Moving.{places_in}
use Rattle.ic_machine.specs.inner.Tables.{size_at}

-- Words and pieces became others: no place is named more often than before, but for what it may be
-- named more often.
pub record AreKept (arities : List ℕ) (words words' : List Word) (xs ys : List Piece) : Type 0 where
  pub each : (w : Word) → is_constant_tag arities w.tag ≡ false
      → (count w words' + sum_by (uses w) ys) + sum_by (room w) xs
      ≤ (count w words + sum_by (uses w) xs) + sum_by (room w) ys

-- Words beside the entries of names: none is a mark, and each name is named at most as often as
-- there is room.
pub record AreEntered (ws entries : List Word) : Type 0 where
  pub words : AllByRecursion (λ w. w.tag < IDLE) ws
  pub named : (i : ℕ)
      → count (name_word i) ws + sum_by (uses (name_word i)) (names_pieces 0 entries)
      ≤ sum_by (room (name_word i)) (names_pieces 0 entries)

-- the words of a stack two by two, those at the bottom first: the upper one of two is the left side
abbrev pub pairs_on : List Word → List Equation
pairs_on [] = []
pairs_on (w ∷ []) = []
pairs_on (r ∷ (l ∷ ws)) = record { left = l; right = r } ∷ pairs_on ws

-- An agent was made of the words on top of a stack, the first on top, and its word is on top now.
pub record MakesAgent (arities : List ℕ) (tag : ℕ) (xs ys : List Piece) (stack stack' : List Word)
    : Type 0 where
  pub arguments : List Word
  pub known : IsTagOf arities tag (length arguments)
  pub rest : List Word
  pub before : stack ≡ rest ++ reverse arguments
  pub place : Word
  pub is : place.tag ≡ tag
  pub made : IsPermutation ys (agent_of place arguments ∷ xs)
  pub after : stack' ≡ rest ++ place ∷ []

-- An agent was put into a block. Its arguments were on top of the stack, the first on top.
pub record PutsAgent (block : ℕ) (old new : Blocks) (stack stack' : List Word) : Type 0 where
  pub arguments : List Word
  pub count : length arguments ≡ old.arity
  pub before : stack ≡ stack' ++ reverse arguments
  pub made : (s : ℕ) → Replaced [] (agent_of (agent_word s block) arguments ∷ [])
      (blocks_pieces s old) (blocks_pieces s new)

-- The name of a cut: it was an end of the cut and is none now, or it is new and is one now.
pub data UnpacksName (e : CutEnd) : (entries entries' : List Word) → (ends ends' : List CutEnd)
    → Type 0 where
  met : (es : List Word) (bs cs : List CutEnd) → IsPermutation bs (e ∷ cs)
      → UnpacksName e es es bs cs
  begun : (es fs : List Word) (bs cs : List CutEnd) → IsPermutation cs (e ∷ bs)
      → Replaced [] (idle (end_word e) ∷ []) (names_pieces 0 es) (names_pieces 0 fs)
      → UnpacksName e es fs bs cs

-- The word on top of a stack waits for a new name, which is on top now. Or all is as it was.
pub data SetsApart : (entries entries' stack stack' : List Word) → Type 0 where
  stays : (es ss : List Word) → SetsApart es es ss ss
  apart : (es fs ss : List Word) (name word : Word) → name.tag ≡ NAME
      → IsPermutation (names_pieces 0 fs) (waits name word ∷ names_pieces 0 es)
      → length fs ≡ max (length es) (length (names_pieces 0 fs))
      → SetsApart es fs (ss ++ word ∷ []) (ss ++ name ∷ [])

-- how many trees a spelled word takes after it: the arguments of an agent
abbrev pub taken_by : List ℕ → ℕ → ℕ
taken_by arities tag = if is_constant_tag arities tag then 0 else if tag == NAME then 0
    else slice_index_or arities (tag - 1) 0

-- how many trees words spell
abbrev pub trees_in : List ℕ → List Word → ℕ
trees_in arities [] = 0
trees_in arities (t ∷ ts) = (trees_in arities ts - taken_by arities t.tag) + 1

-- A spelled word that is put on so many trees: an agent that has arguments takes them from these.
pub record IsNext (arities : List ℕ) (trees : ℕ) (w : Word) : Type 0 where
  pub agent : ¬ (w.tag ≡ NAME) → is_constant_tag arities w.tag ≡ false
      → (arity : ℕ) × IsTagOf arities w.tag arity × (arity ≤ trees) × (w.index ≡ 0)

-- each word is put on the trees that those after it spell
abbrev pub AreNext : List ℕ → List Word → Type 0
AreNext arities [] = Unit {0}
AreNext arities (t ∷ ts) = IsNext arities (trees_in arities ts) t × AreNext arities ts

-- There are as many names as before, or as are in use. No fewer are in use than before.
pub record NamesGrow (entries entries' : List Word) : Type 0 where
  pub places : length entries' ≡ max (length entries) (length (names_pieces 0 entries'))
  pub more : length (names_pieces 0 entries) ≤ length (names_pieces 0 entries')

-- the same of the blocks of each symbol
pub record BlocksGrow (heaps heaps' : List Blocks) : Type 0 where
  pub places : (s : ℕ) → (table heaps' s).count
      ≡ max (table heaps s).count (length (blocks_pieces s (table heaps' s)))
  pub more : (s : ℕ) → length (blocks_pieces s (table heaps s)) ≤ length (blocks_pieces s (table heaps' s))

-- the same of all kinds of places
pub record TablesGrow (old new : Tables) : Type 0 where
  pub places : (kind : ℕ) → size_at kind new ≡ max (size_at kind old) (in_use kind (places_in new))
  pub more : (kind : ℕ) → in_use kind (places_in old) ≤ in_use kind (places_in new)

-- some symbol has as many blocks as there may be
abbrev pub HasFullBlocks : List Blocks → Type 0
HasFullBlocks hs = (s : ℕ) × (2 ^ 32 ≤ (table hs s).count + 1)

-- some kind has as many places as there may be
abbrev pub HasFullTable : Tables → Type 0
HasFullTable t = (kind : ℕ) × (2 ^ 32 ≤ size_at kind t + 1)
