use Rattle.std.proofs.Common.{drop}
use Rattle.std.specs.List.{flat_map}
use Rattle.ic_codec.specs.inner.Room.{GoesOn}
use Rattle.ic_codec.specs.Symbols.{symbol_bytes, symbols_bytes}
use Rattle.ic_codec.proofs.symbols.put_symbols.Given as goal

-- the symbols after these are left
abbrev pub invariant-loop-sym : goal.invariant-loop-sym
invariant-loop-sym l = GoesOn l.fn.out (symbols_bytes l.symbols) l.out (flat_map symbol_bytes (drop l.sym l.symbols))
