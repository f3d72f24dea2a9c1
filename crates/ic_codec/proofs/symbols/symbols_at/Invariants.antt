use Rattle.std.proofs.Common.{◌≡◌, ◌++◌, length}
use Rattle.std.specs.List.{flat_map}
use Rattle.ic_codec.specs.Symbols.{symbol_bytes}
use Rattle.ic_codec.proofs.symbols.symbols_at.Given as goal

-- so many symbols have been read
abbrev pub invariant-loop : goal.invariant-loop
invariant-loop l = (l.initial.rest ≡ flat_map symbol_bytes l.symbols ++ l.rest) × (length l.symbols ≡ l.counter)
