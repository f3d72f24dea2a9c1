use Rattle.std.proofs.Common.{◌≡◌, drop, length}
use Rattle.std.specs.Cmp.Lexicographic.{pointwise}
use Rattle.ic_term.specs.Symbol.{symbol_eq, symbols_eq}
use Rattle.ic_term.proofs.symbols.SymbolsPartialEq.eq.Given as goal

-- the answer is that of the symbols left, as many on both sides
abbrev pub invariant-loop-sym : goal.invariant-loop-sym
invariant-loop-sym l = (pointwise symbol_eq (drop l.sym l.self) (drop l.sym l.other) ≡ symbols_eq l.self l.other) × (length l.self ≡ length l.other)
