use Rattle.std.proofs.Common.{◌≡◌, length, map}
use Rattle.std.specs.List.{fold}
use Rattle.ic_term.specs.Symbol.{texts}
use Rattle.ic_expand.specs.Pieces.{pieces}
use Rattle.ic_expand.specs.Reading.{noted, used_symbols, uses}
use Rattle.ic_expand.specs.inner.Ahead.{counts_of}
use Rattle.ic_expand.specs.inner.Sheets.{symbol_in}
use Rattle.ic_expand.proofs.reading.used_symbols.Given as goal

-- with what is left the symbols so far, whose texts are known, become those of all
abbrev pub invariant-loop-rest : goal.invariant-loop-rest
invariant-loop-rest l = record {
  counts : l.counts.items ≡ counts_of l.rest;
  symbols : fold noted (map symbol_in l.symbols.items) (uses l.spot (pieces l.rest)) ≡ used_symbols (pieces l.text);
  known : l.known ≡ texts (map symbol_in l.symbols.items);
}

abbrev pub decreases-loop-rest : goal.decreases-loop-rest
decreases-loop-rest l = length l.rest
