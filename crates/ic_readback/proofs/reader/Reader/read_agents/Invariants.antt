use Rattle.std.proofs.Common.{◌≡◌, ◌+◌, ◌<◌, ℕ, List}
use Rattle.std.specs.Prelude.{Contains}
use Rattle.ic_arena.specs.declared.word.Word.{Word}
use Rattle.ic_arena.specs.Piece.{agent_of}
use Rattle.ic_readback.specs.inner.Reading.{Gathers, HoldOnce}
use Rattle.ic_readback.proofs.reader.Reader.read_agents.Given as goal

abbrev pub invariant-loop-symbol : goal.invariant-loop-symbol
invariant-loop-symbol l = record {
  read : Gathers l.initial.self l.self l.initial.loose.items l.loose.items;
  none : HoldOnce l.initial.self.places.pieces → (s : ℕ) → s < l.symbol → (a : Word) (vs : List Word) → a.tag ≡ s + 1 → ¬ Contains l.self.places.pieces (agent_of a vs);
}
