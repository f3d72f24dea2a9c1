-- One agent that is made.
use Rattle.std.specs.Prelude.{◌≡◌, ℕ, ◌+◌, List, [], ◌∷◌, ◌++◌, length, sum_by}
use Rattle.ic_arena.specs.declared.word.Word.{Word}
use Rattle.ic_arena.specs.Piece.{Piece, room}
use Rattle.ic_arena.specs.Tables.{Blocks, Replaced, blocks_pieces}
use Rattle.ic_machine.specs.Plan.{Made, made_at}
use Rattle.ic_machine.specs.inner.Firing.{table}

-- no block is free
abbrev pub AreFull : List Blocks → Type 0
AreFull hs = (s : ℕ) → (table hs s).count ≡ length (blocks_pieces s (table hs s))

-- An agent was made of what is in registers, at a place that was free, and its word put after them.
pub record MakesOne (m : Made) (xs ys : List Piece) (before after : List Word) : Type 0 where
  pub place : Word
  pub tag : place.tag ≡ m.symbol + 1
  pub pushed : after ≡ before ++ place ∷ []
  pub pieces : Replaced [] (made_at before m place ∷ []) xs ys
  pub fresh : sum_by (room place) xs ≡ 0
