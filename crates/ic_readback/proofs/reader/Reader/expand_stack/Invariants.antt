use Rattle.std.proofs.Common.{◌≡◌, reverse}
use Rattle.ic_readback.specs.inner.Expanding.{state, Steps}
use Rattle.ic_readback.proofs.Chains.{load}
use Rattle.ic_readback.proofs.reader.Reader.expand_stack.Given as goal

abbrev pub invariant-loop-word : goal.invariant-loop-word
invariant-loop-word l = record {
  steps : Steps l.initial.self.places.arities
      (state l.initial.self.tokens.items (reverse l.initial.self.stack.items) l.initial.self.places.pieces)
      (state l.self.tokens.items (reverse l.self.stack.items) l.self.places.pieces);
  arities : l.self.places.arities ≡ l.initial.self.places.arities;
  equations : l.self.equations ≡ l.initial.self.equations;
}

abbrev pub decreases-loop-word : goal.decreases-loop-word
decreases-loop-word l = load (state l.self.tokens.items (reverse l.self.stack.items) l.self.places.pieces)
