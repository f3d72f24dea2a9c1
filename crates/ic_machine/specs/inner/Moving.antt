-- For private functions: what packing and unpacking do to tables.
use Rattle.std.specs.Prelude.{◌≡◌, ℕ, ◌+◌, ◌^◌, ◌<◌, ◌≤◌, List, [], ◌∷◌, ◌++◌, true, false, length, map, reverse, IsPermutation}
use Rattle.ic_arena.specs.declared.word.Word.{Word}
use Rattle.ic_arena.specs.Word.{name_word}
use Rattle.ic_arena.specs.Piece.{Piece, equated, idle, waits, agent_of}
use Rattle.ic_arena.specs.Tables.{names_pieces}
use Rattle.ic_machine.specs.Held.{IsTagOf}
use Rattle.ic_machine.specs.declared.tables.Tables.{Tables}
use Rattle.ic_machine.specs.Moving.{CutEnd, Ends, Side, Spells, end_word, spelled_agent}
use Rattle.ic_machine.specs.Separate.{is_constant_tag, IsSeparate}
use Rattle.ic_machine.specs.inner.Firing.{heaps_pieces, arities_of}

-- what tables hold at places
abbrev pub places_in : Tables → List Piece
places_in t = names_pieces 0 t.names.entries ++ heaps_pieces 0 t.heaps.items

-- the same, with ends of cuts
abbrev pub side_in : Tables → Ends → Side
side_in t b = record { places = places_in t; ends = b.ends }

-- Some words were taken out of tables. With these, with the ends of cuts and with others each place is named no more often
-- than it may be. The others are the words of the interface, and the sides of equations.
abbrev pub AreInHand : (words others : List Word) → Tables → Ends → Type 0
AreInHand words others t b = IsSeparate (arities_of t.heaps.items) (words ++ (map end_word b.ends ++ others)) (places_in t)

-- the same of the others alone: what is left where memory ran out
abbrev pub AreLeft : (others : List Word) → Tables → Type 0
AreLeft others t = IsSeparate (arities_of t.heaps.items) others (places_in t)

-- Tables have as many names, and as many blocks of each symbol, and nothing else of them has changed.
pub record IsAsLarge (old new : Tables) : Type 0 where
  pub names : length new.names.entries ≡ length old.names.entries
  pub blocks : map (λ b. b.count) new.heaps.items ≡ map (λ b. b.count) old.heaps.items
  pub arities : arities_of new.heaps.items ≡ arities_of old.heaps.items
  pub pending : new.pending ≡ old.pending
  pub registers : new.registers ≡ old.registers
  pub spare : new.spare ≡ old.spare

-- Tables may have more names, for all of which there are numbers, and nothing else of them has changed.
pub record HasMoreNames (old new : Tables) : Type 0 where
  pub names : length old.names.entries ≤ length new.names.entries
  pub few : length new.names.entries < 2 ^ 32
  pub blocks : map (λ b. b.count) new.heaps.items ≡ map (λ b. b.count) old.heaps.items
  pub arities : arities_of new.heaps.items ≡ arities_of old.heaps.items
  pub pending : new.pending ≡ old.pending
  pub registers : new.registers ≡ old.registers
  pub spare : new.spare ≡ old.spare

-- How much is left to pack: each place is one, with one for each argument of an agent, and so is each word in hand.
abbrev pub weight : Piece → ℕ
weight (equated l r) = 0
weight (idle x) = 1
weight (waits x u) = 1
weight (agent_of a ws) = 1 + length ws

-- A cut of this number was begun at a name for which nothing waits, or one ended there, with the name.
pub data Cuts (name cut : ℕ) : (entries entries' : List Word) → (ends ends' : List CutEnd) → Type 0 where
  begins : (es : List Word) (bs cs : List CutEnd) → IsPermutation cs (record { cut = cut; name = name } ∷ bs)
      → Cuts name cut es es bs cs
  finishes : (es fs : List Word) (bs cs : List CutEnd)
      → IsPermutation (names_pieces 0 es) (idle (name_word name) ∷ names_pieces 0 fs)
      → IsPermutation bs (record { cut = cut; name = name } ∷ cs)
      → Cuts name cut es fs bs cs

-- A name was packed: the word that waits for it is next, or it is cut, and an end of the cut from then on, or no longer.
pub data PacksName (name : ℕ) : (entries entries' : List Word) → (ends ends' : List CutEnd)
    → (words words' stack stack' : List Word) → Type 0 where
  followed : (es fs : List Word) (bs : List CutEnd) (ws ss : List Word) (u : Word)
      → IsPermutation (names_pieces 0 es) (waits (name_word name) u ∷ names_pieces 0 fs)
      → PacksName name es fs bs bs ws ws ss (ss ++ u ∷ [])
  begun : (es : List Word) (bs cs : List CutEnd) (ws ss : List Word) (c : ℕ)
      → IsPermutation cs (record { cut = c; name = name } ∷ bs)
      → PacksName name es es bs cs ws (ws ++ name_word c ∷ []) ss ss
  ended : (es fs : List Word) (bs cs : List CutEnd) (ws ss : List Word) (c : ℕ)
      → IsPermutation (names_pieces 0 es) (idle (name_word name) ∷ names_pieces 0 fs)
      → IsPermutation bs (record { cut = c; name = name } ∷ cs)
      → PacksName name es fs bs cs ws (ws ++ name_word c ∷ []) ss ss

-- An agent was packed: it is written as it is where it has no arguments, and before its arguments else, which are next.
pub record PacksAgent (agent : Word) (arities : List ℕ) (xs ys : List Piece)
    (words words' stack stack' : List Word) : Type 0 where
  pub plain : is_constant_tag arities agent.tag ≡ true
      → (ys ≡ xs) × (words' ≡ words ++ agent ∷ []) × (stack' ≡ stack)
  pub opened : is_constant_tag arities agent.tag ≡ false → (arguments : List Word)
      × IsTagOf arities agent.tag (length arguments)
      × IsPermutation xs (agent_of agent arguments ∷ ys)
      × (words' ≡ words ++ spelled_agent agent ∷ []) × (stack' ≡ stack ++ reverse arguments)

-- A tree is being packed. What is on the stack is left of it: whatever that spells, after what was written, is what the tree
-- spells.
pub record IsUnderWay (arities : List ℕ) (first now : Side) (root : Word) (before words stack : List Word) : Type 0 where
  pub more : List Word
  pub written : words ≡ before ++ more
  pub spells : (rest : Side) (ts : List Word) → Spells arities now rest (reverse stack) ts
      → Spells arities first rest (root ∷ []) (more ++ ts)

-- What hangs below a word was taken out, and spelled after what was spelled before.
pub record PacksTree (arities : List ℕ) (root : Word) (old new : Side) (before after : List Word) : Type 0 where
  pub more : List Word
  pub spelled : after ≡ before ++ more
  pub spells : Spells arities old new (root ∷ []) more
