use Rattle.std.proofs.Common.{◌<◌, ℕ}
use Rattle.std.specs.Prelude.{Contains}
use Rattle.ic_arena.specs.declared.word.Word.{Word}
use Rattle.ic_arena.specs.Word.{name_word}
use Rattle.ic_arena.specs.Piece.{waits}
use Rattle.ic_readback.specs.inner.Reading.{Gathers}
use Rattle.ic_readback.proofs.reader.Reader.read_names.Given as goal

abbrev pub invariant-loop-index : goal.invariant-loop-index
invariant-loop-index l = record {
  read : Gathers l.initial.self l.self l.initial.loose.items l.loose.items;
  none : (j : ℕ) → j < l.index → (u : Word) → ¬ Contains l.self.places.pieces (waits (name_word j) u);
}
