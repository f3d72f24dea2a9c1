use Rattle.std.proofs.Common.{◌≡◌, ◌++◌, drop, map}
use Rattle.std.specs.Prelude.{filter}
use Rattle.ic_expand.specs.Generic.{generic_rule}
use Rattle.ic_expand.specs.inner.Sheets.{is_missing, symbol_in}
use Rattle.ic_expand.proofs.writing.Sheet.rules_with.Given as goal

-- the rules so far, and those with the symbols that are left
abbrev pub invariant-loop-symbol : goal.invariant-loop-symbol
invariant-loop-symbol l =
    map (λ r. r.items) l.rules.items ++ map (generic_rule l.kind l.generic) (filter (is_missing l.self l.earlier l.place) (map symbol_in (drop l.symbol-index l.self.symbols.items)))
    ≡ map (generic_rule l.kind l.generic) (filter (is_missing l.self l.earlier l.place) (map symbol_in l.self.symbols.items))
