use Rattle.std.proofs.Common.{◌≡◌, drop, map}
use Rattle.std.specs.List.{list_any}
use Rattle.ic_expand.specs.inner.Sheets.{is_missing, symbol_in}
use Rattle.ic_expand.proofs.writing.Sheet.wants_some.Given as goal

-- with none so far is a rule wanted
abbrev pub invariant-loop-symbol : goal.invariant-loop-symbol
invariant-loop-symbol l =
    list_any (is_missing l.self l.earlier l.place) (map symbol_in (drop l.symbol-index l.self.symbols.items))
    ≡ list_any (is_missing l.self l.earlier l.place) (map symbol_in l.self.symbols.items)
