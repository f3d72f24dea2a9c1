use Rattle.std.proofs.Common.{◌≡◌, ℕ, ◌<◌, Some, map, slice_get}
use Rattle.ic_arena.specs.declared.word.Word.{Word}
use Rattle.ic_readback.specs.inner.Writing.{found, key_of}
use Rattle.ic_readback.proofs.loose.index_places.Given as goal

abbrev pub invariant-loop-index : goal.invariant-loop-index
invariant-loop-index l =
    (j : ℕ) (w : Word) → j < l.index → slice_get (map (λ l. l.place) l.loose) j ≡ Some w → found l.indices (key_of w) ≡ Some j
