use Rattle.std.proofs.Common.{◌<◌, ℕ, List}
use Rattle.std.specs.Prelude.{Contains}
use Rattle.ic_arena.specs.declared.word.Word.{Word}
use Rattle.ic_arena.specs.Word.{agent_word}
use Rattle.ic_arena.specs.Piece.{agent_of}
use Rattle.ic_readback.specs.inner.Reading.{Gathers, HoldOnce}
use Rattle.ic_readback.proofs.reader.Reader.read_agents_of.Given as goal

abbrev pub invariant-loop-index : goal.invariant-loop-index
invariant-loop-index l = record {
  read : Gathers l.initial.self l.self l.initial.loose.items l.loose.items;
  none : HoldOnce l.initial.self.places.pieces → (j : ℕ) → j < l.index → (vs : List Word) → ¬ Contains l.self.places.pieces (agent_of (agent_word l.symbol j) vs);
}
