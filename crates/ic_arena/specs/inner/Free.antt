-- How places that are free are found again.
use Rattle.std.specs.Prelude.{◌≡◌, ℕ, zero, suc, ◌<◌, ◌≤◌, List, [], ◌∷◌, take, drop, length, slice_set, slice_index_or}
use Rattle.std.specs.List.{AllByRecursion}
use Rattle.ic_arena.specs.declared.word.Word.{Word}
use Rattle.ic_arena.specs.declared.word.TheConstants.{IDLE, FREE, NONE}
use Rattle.ic_arena.specs.Word.{name_word}
use Rattle.ic_arena.specs.Tables.{Blocks, AreBlocks, entry}

-- no word is the mark of a free place
abbrev pub AreUsed : List Word → Type 0
AreUsed ws = AllByRecursion (λ w. ¬ (w.tag ≡ FREE)) ws

-- So many of these words are marks of free places. The first is at this place, each tells the place of the next, and the
-- last tells that there is no next.
abbrev pub AreFound : ℕ → List Word → ℕ → Type 0
AreFound zero ws at = (at ≡ NONE) × AreUsed ws
AreFound (suc n) ws at = (at < length ws) × ((entry ws at).tag ≡ FREE)
    × AreFound n (slice_set ws at (record { tag = IDLE; index = 0 })) (entry ws at).index

-- the first word of each of so many blocks of k words
abbrev pub firsts : ℕ → ℕ → List Word → List Word
firsts k zero ws = []
firsts k (suc n) ws = slice_index_or ws 0 (name_word 0) ∷ firsts k n (drop k ws)

-- The words are those of whole blocks, and each free block is found, the first at this place.
pub record AreKept (b : Blocks) (at : ℕ) : Type 0 where
  pub blocks : AreBlocks b
  pub free : ℕ
  pub found : AreFound free (firsts b.arity b.count b.words) at

-- So many of these words are the entries of names, so many of those are free, and each is found, the first at this place.
pub record AreHeld (count free : ℕ) (words : List Word) (at : ℕ) : Type 0 where
  pub there : count ≤ length words
  pub found : AreFound free (take count words) at
